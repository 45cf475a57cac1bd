-- The loop of `add_listed`, message by message, and each of its ends: for `run_encode`.
use Rattle.std.proofs.Common.{◌≡◌, ℕ, ◌+◌, ◌≤◌, Bool, List, [], ◌∷◌, ◌++◌, length, Result, Ok, Err}
use Rattle.std.proofs.Common.{refl, sym, ap, ap₂, ◌∙◌, subst, arith}
use Rattle.std.proofs.lemmas.List.{append-nil, flat_map_more, length_push, map-append}
use Rattle.bufr_base.specs.Answers.{Fails}
use Rattle.bufr_base.specs.declared.failure.Failure.{Failure}
use Rattle.bufr_tables.specs.Entries.{Entries}
use Rattle.bufr_message.specs.declared.EncodeFault.{EncodeFault}
use Rattle.bufr_message.specs.declared.Message.{Message}
use Rattle.bufr_listing_reader.specs.Reading.{messages_listed}
use Rattle.bufr_listing_reader.specs.Unread.{Unread, behind, nothing, or_fault, all_of}
use Rattle.bufr_listing_reader.specs.UnreadLaws.{behind_one}
use Rattle.bufr_io.specs.declared.fault.ToolFault.{ToolFault}
use Rattle.bufr_io.specs.declared.fault.ToolFault.TheVariants as faults
use Rattle.bufr_engines.specs.Encoding.{AreEncodings, EncodesListing, ReadsMessage, TellsFault}
use Rattle.bufr_engines.specs.Encoding.{code_as_asked}

pub encodings_more : (tables : Entries) (compressed : Bool) (messages : List Message) (m : Message)
    (octets octets' more : List ℕ) → AreEncodings tables compressed messages octets
    → code_as_asked tables compressed m ≡ Ok more → octets' ≡ octets ++ more
    → AreEncodings tables compressed (messages ++ m ∷ []) octets'
encodings_more tables compressed messages m octets octets' more e is is' = record {
  codes = e.codes ++ more ∷ [];
  each = map-append (code_as_asked tables compressed) messages (m ∷ [])
      ∙ ap₂ (λ (a b : List (Result (List ℕ) EncodeFault)). a ++ b) e.each
      (ap (λ (r : Result (List ℕ) EncodeFault). r ∷ []) is)
      ∙ sym (map-append Ok e.codes (more ∷ []));
  joined = is' ∙ ap (λ (o : List ℕ). o ++ more) e.joined ∙ flat_map_more (λ c. c) [] e.codes more;
}

-- ---- message by message

-- has encoded and counted the messages read so far of a text; the others are left
pub record EncodedSoFar (tables : Entries) (compressed : Bool) (text : List ℕ) (u : Unread)
    (octets : List ℕ) (count : ℕ) : Type 0 where
  pub messages : List Message
  pub listed : all_of (behind messages u) ≡ messages_listed tables text
  pub few : length messages + length u.messages ≤ length text
  pub encoded : AreEncodings tables compressed messages octets
  pub counted : count ≡ length messages

pub none_encoded : (tables : Entries) (compressed : Bool) (text : List ℕ) (u : Unread)
    (octets : List ℕ) → octets ≡ [] → all_of u ≡ messages_listed tables text
    → length u.messages ≤ length text → EncodedSoFar tables compressed text u octets 0
none_encoded tables compressed text u octets none listed few = record {
  messages = [];
  listed = listed;
  few = omega (arith, few);
  encoded = record { codes = []; each = refl; joined = none };
  counted = refl;
}

one_less : (old new : Unread) (m : Message) → old ≡ behind (m ∷ []) new
    → length old.messages ≡ length new.messages + 1
one_less old new m e = let whole = ap (λ (u : Unread). length u.messages) e in omega (arith, whole)

pub one_encoded : (tables : Entries) (compressed : Bool) (text : List ℕ) (old new : Unread)
    (m : Message) (octets octets' more : List ℕ) (count : ℕ)
    → EncodedSoFar tables compressed text old octets count → old ≡ behind (m ∷ []) new
    → code_as_asked tables compressed m ≡ Ok more → octets' ≡ octets ++ more
    → EncodedSoFar tables compressed text new octets' (count + 1)
one_encoded tables compressed text old new m octets octets' more count so e is added =
    let less = one_less old new m e in
    let grown = length_push so.messages m in
    record {
      messages = so.messages ++ m ∷ [];
      listed = ap all_of (sym (behind_one so.messages m new))
          ∙ ap (λ (u : Unread). all_of (behind so.messages u)) (sym e) ∙ so.listed;
      few = omega (arith, so.few, less, grown);
      encoded = encodings_more tables compressed so.messages m octets octets' more so.encoded is added;
      counted = ap (λ n. n + 1) so.counted ∙ sym grown;
    }

pub all_encoded : (tables : Entries) (compressed : Bool) (text : List ℕ) (u : Unread)
    (octets : List ℕ) (count : ℕ) → EncodedSoFar tables compressed text u octets count
    → u ≡ nothing
    → (messages : List Message) × (messages_listed tables text ≡ Ok messages)
    × AreEncodings tables compressed messages octets × (count ≡ length messages)
all_encoded tables compressed text u octets count so e = (
  so.messages,
  sym so.listed ∙ ap (λ (u : Unread). all_of (behind so.messages u)) e
      ∙ ap Ok (append-nil so.messages),
  so.encoded,
  so.counted,
)

pub reading_stopped : (tables : Entries) (compressed : Bool) (text : List ℕ) (old new : Unread)
    (octets : List ℕ) (count : ℕ) (e : ToolFault)
    → EncodedSoFar tables compressed text old octets count → ReadsMessage old new (Err e)
    → EncodesListing tables compressed text (Err e)
reading_stopped tables compressed text old new octets count (faults.Listing why) so h =
    sym so.listed ∙ ap (λ (u : Unread). all_of (behind so.messages u)) h.0
reading_stopped tables compressed text old new octets count faults.OutOfMemory so h = tt
reading_stopped tables compressed text old new octets count (faults.WriteFailed written) so h =
    absurd h
reading_stopped tables compressed text old new octets count e so h = absurd h

pub encoding_stopped : (tables : Entries) (compressed : Bool) (text : List ℕ) (old new : Unread)
    (m : Message) (octets : List ℕ) (count : ℕ) (failure : Failure EncodeFault) (e : ToolFault)
    → EncodedSoFar tables compressed text old octets count → old ≡ behind (m ∷ []) new
    → Fails failure (code_as_asked tables compressed m)
    → TellsFault new (count + 1) failure e → EncodesListing tables compressed text (Err e)
encoding_stopped tables compressed text old new m octets count failure (faults.Listing why) so is
    fails told =
    sym so.listed ∙ ap (λ (u : Unread). all_of (behind so.messages u)) is
    ∙ ap (or_fault (so.messages ++ m ∷ new.messages)) told
encoding_stopped tables compressed text old new m octets count failure (faults.Encode which why) so
    is fails told = (
      so.messages ++ m ∷ new.messages,
      sym so.listed ∙ ap (λ (u : Unread). all_of (behind so.messages u)) is
          ∙ ap (or_fault (so.messages ++ m ∷ new.messages)) told.0,
      record {
        before = so.messages;
        message = m;
        after = new.messages;
        parted = refl;
        counted = told.1 ∙ ap (λ n. n + 1) so.counted;
        octets = octets;
        encoded = so.encoded;
        refused = subst (λ (f : Failure EncodeFault). Fails f (code_as_asked tables compressed m)) told.2 fails;
      },
    )
encoding_stopped tables compressed text old new m octets count failure faults.OutOfMemory so is
    fails told = tt
encoding_stopped tables compressed text old new m octets count failure
    (faults.WriteFailed written) so is fails told = absurd told
encoding_stopped tables compressed text old new m octets count failure e so is fails told =
    absurd told
