-- Laws: how parts make up a listing.
use Rattle.std.specs.Prelude.{◌≡◌, List, ◌++◌}
use Rattle.std.specs.List.{flat_map}
use Rattle.bufr_fields.specs.declared.field.Field.{Field}
use Rattle.bufr_sections.specs.declared.message.Message.{Message}
use Rattle.bufr_listing.specs.Listings.{line, joined, heading_lines, subset_lines}
use Rattle.bufr_listing.specs.Listings.{end_line, field_line, subset_line, listing}

-- a listing joins the lines before its first subset, those of each subset, and the last line
abbrev pub ListingsAreJoinedParts : Type 0
ListingsAreJoinedParts = (m : Message)
    → listing m ≡ joined (heading_lines m)
    ++ flat_map (λ s. joined (subset_lines s)) m.subsets ++ line end_line

-- the lines of a subset join its first line and those of its fields, before any place and from it
-- on
abbrev pub SubsetsAreJoinedLines : Type 0
SubsetsAreJoinedLines = (before left : List Field)
    → joined (subset_lines (record { fields = before ++ left }))
    ≡ line subset_line ++ flat_map (λ f. line (field_line f)) before
    ++ flat_map (λ f. line (field_line f)) left
