-- Results of reading a text against the messages that it lists, and octets that a message may lack:
-- for `read` and `head_of`.
use Rattle.std.proofs.Common.{◌≡◌, ℕ, List, [], Vec, Global, Result, Ok, Err, unwrap_or, refl, subst}
use Rattle.std.specs.Prelude.{IfOk, Option, Some, None, option_map}
use Rattle.bufr_base.specs.Answers.{Gives}
use Rattle.bufr_tables.specs.Entries.{Entries}
use Rattle.bufr_base.specs.declared.failure.Failure.{Failure}
use Rattle.bufr_base.specs.declared.failure.Failure.TheVariants.{Fault}
use Rattle.bufr_sections.specs.declared.message.Message.{Message}
use Rattle.bufr_listing.specs.declared.fault.ListingFault.{ListingFault}
use Rattle.bufr_listing_reader.specs.Lines.{Listed}
use Rattle.bufr_listing_reader.specs.FirstFaults.{FirstFault}
use Rattle.bufr_listing_reader.specs.Reading.{messages_listed}
use Rattle.bufr_listing_reader.specs.Laws.{MessagesReadAreListed, MessagesListedAreRead}
use Rattle.bufr_listing_reader.specs.Laws.{FaultsReadAreFirst, FirstFaultsAreRead}

pub answer_listed : {X : Type 0} → MessagesReadAreListed → (tables : Entries) (text : List ℕ)
    (view : X → List Message) (r : Result X (Failure ListingFault))
    → Gives view r (messages_listed tables text) → IfOk r (λ x. Listed tables text (view x))
answer_listed law tables text view (Ok x) exact = law tables text (view x) exact
answer_listed law tables text view (Err e) exact = tt

pub listed_answered : {X : Type 0} → MessagesListedAreRead → (tables : Entries) (text : List ℕ)
    (view : X → List Message) (r : Result X (Failure ListingFault))
    → Gives view r (messages_listed tables text) → (messages : List Message)
    → Listed tables text messages → Gives view r (Ok messages)
listed_answered law tables text view r exact messages listed =
    subst (Gives view r) (law tables text messages listed) exact

pub answer_first_fault : {X : Type 0} → FaultsReadAreFirst → (tables : Entries) (text : List ℕ)
    (view : X → List Message) (r : Result X (Failure ListingFault))
    → Gives view r (messages_listed tables text) → (fault : ListingFault)
    → r ≡ Err (Fault fault) → FirstFault tables text fault
answer_first_fault law tables text view r exact fault is =
    law tables text fault
    (subst (λ r. Gives view r (messages_listed tables text)) is exact)

pub first_fault_answered : {X : Type 0} → FirstFaultsAreRead → (tables : Entries) (text : List ℕ)
    (view : X → List Message) (r : Result X (Failure ListingFault))
    → Gives view r (messages_listed tables text) → (fault : ListingFault)
    → FirstFault tables text fault → Gives view r (Err fault)
first_fault_answered law tables text view r exact fault first =
    subst (Gives view r) (law tables text fault first) exact

pub local_items : (o : Option (Vec ℕ Global)) (none : Vec ℕ Global) → none.items ≡ []
    → (unwrap_or o none).items ≡ unwrap_or (option_map (λ v. v.items) o) []
local_items None none e = e
local_items (Some octets) none e = refl
