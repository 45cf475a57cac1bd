-- Laws for loops that read one message after another.
use Rattle.std.proofs.Common.{◌≡◌, List, [], ◌∷◌, ◌++◌, append_assoc, sym, ap}
use Rattle.bufr_sections.specs.declared.message.Message.{Message}
use Rattle.bufr_listing_reader.specs.Unread.{Unread, behind}

-- one message more after others, and what is left after it
pub behind_one : (messages : List Message) (m : Message) (u : Unread)
    → behind messages (behind (m ∷ []) u) ≡ behind (messages ++ m ∷ []) u
behind_one messages m u =
    ap (λ (ms : List Message). record { messages = ms; fault = u.fault })
    (sym (append_assoc messages (m ∷ []) u.messages))
