-- Steps of reading a subset, each before all that follow.
use Rattle.std.specs.Prelude.{◌≡◌, ℕ, List, [], ◌∷◌, ◌++◌, Option, Some, None}
use Rattle.std.specs.Prelude.{Result, Ok, Err}
use Rattle.bufr_expand.specs.Courses.{Course}
use Rattle.bufr_fields.specs.declared.field.Field.{Field}
use Rattle.bufr_fields.specs.declared.field.Subset.{Subset}
use Rattle.bufr_listing.specs.declared.fault.ListingFault.{ListingFault}
use Rattle.bufr_listing_reader.specs.Lines.{Line}
use Rattle.bufr_listing_reader.specs.Reading.{FieldsListed, SubsetsListed, fields_read}

-- these fields before those that follow
abbrev pub behind_fields : List Field → Result FieldsListed ListingFault
    → Result FieldsListed ListingFault
behind_fields fields (Ok found) = Ok (record found { fields = fields ++ found.fields })
behind_fields fields (Err e) = Err e

-- these subsets before those that follow
abbrev pub behind_subsets : List Subset → Result SubsetsListed ListingFault
    → Result SubsetsListed ListingFault
behind_subsets subsets (Ok found) = Ok (record found { subsets = subsets ++ found.subsets })
behind_subsets subsets (Err e) = Err e

-- a step reads a field and leaves the rest, or ends the subset at `items` items
abbrev pub Reads : ℕ → Course → List Line → Option Field → Course → ℕ → List Line → Type 0
Reads past course ls (Some field) after items rest =
    fields_read past course ls ≡ behind_fields (field ∷ []) (fields_read past after rest)
Reads past course ls None after items rest =
    fields_read past course ls ≡ Ok (record { fields = []; items = items; rest = rest })
