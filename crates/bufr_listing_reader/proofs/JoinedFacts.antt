-- The joined listings of messages are their lines, joined: for `listings_are_read_back`.
use Rattle.std.proofs.Common.{◌≡◌, ℕ, List, [], ◌∷◌, ◌++◌, refl, sym, ap, ◌∙◌, append_assoc}
use Rattle.std.specs.List.{flat_map}
use Rattle.bufr_sections.specs.declared.message.Message.{Message}
use Rattle.bufr_listing.specs.Listings.{line, joined, lines_of, listing}

joined_append : (xs ys : List (List ℕ)) → joined (xs ++ ys) ≡ joined xs ++ joined ys
joined_append [] ys = refl
joined_append (x ∷ xs) ys = ap (λ zs. line x ++ zs) (joined_append xs ys)
    ∙ sym (append_assoc (line x) (joined xs) (joined ys))

pub listings_joined : (messages : List Message)
    → flat_map listing messages ≡ joined (flat_map lines_of messages)
unfolding listing
listings_joined [] = refl
listings_joined (m ∷ messages) = ap (λ zs. joined (lines_of m) ++ zs) (listings_joined messages)
    ∙ sym (joined_append (lines_of m) (flat_map lines_of messages))
