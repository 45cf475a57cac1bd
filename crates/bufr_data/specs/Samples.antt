-- Sample data, for worked values.
use Rattle.std.specs.Prelude.{ℕ, ◌*◌, Bool, true, List, [], map, Result, Ok, Err, pos, Option}
use Rattle.std.specs.Prelude.{option_map}
use Rattle.bufr_expand.specs.Expansion.{expansion}
use Rattle.bufr_expand.specs.Trees.{Tree, done, tree_of}
use Rattle.bufr_expand.specs.Courses.{Course, course}
use Rattle.bufr_expand.specs.Samples.{sample}
use Rattle.bufr_expand.specs.declared.node.Node.{Node}
use Rattle.bufr_expand.specs.declared.node.TemplateFault.{TemplateFault}
use Rattle.bufr_fields.specs.declared.field.Raw.{Raw}
use Rattle.bufr_fields.specs.declared.fault.DataFault.{DataFault}
use Rattle.bufr_fields.specs.declared.fault.MisfitFault.{MisfitFault}
use Rattle.bufr_fields.specs.declared.field.Field.{Field}
use Rattle.bufr_data.specs.Plain.{SubsetRead}
use Rattle.bufr_fields.specs.Values.{is_missing, value, text_of}
use Rattle.bufr_fields.specs.declared.field.Subset.{Subset}
use Rattle.bufr_data.specs.Data.{subsets_in, written_bits}
use Rattle.bufr_bits.specs.Bits.{bits}
use Rattle.bufr_base.specs.Answers.{result_map}
use Rattle.bufr_tables.specs.declared.element.Kind.TheVariants as kinds
use Rattle.bufr_expand.specs.declared.operators.Spec.{Spec}

-- the tree of an expansion, or the empty tree after a fault
abbrev pub tree_or_done : Result (List Node) TemplateFault → Tree
tree_or_done (Ok ns) = tree_of ns
tree_or_done (Err e) = done

-- the course of a list under the sample tables, after `used` items
abbrev pub sample_course : List ℕ → ℕ → Course
sample_course list used = course (tree_or_done (expansion sample list)) used

-- the raw values that were read
abbrev pub raws : Result SubsetRead DataFault → Result (List Raw) DataFault
raws (Ok found) = Ok (map (λ f. f.raw) found.fields)
raws (Err e) = Err e

-- ---- compressed data

-- the tree of a list under the sample tables
abbrev pub sample_tree : List ℕ → Tree
sample_tree list = tree_or_done (expansion sample list)

-- the raw values of each subset in octets of data
abbrev pub sample_raws : List ℕ → Bool → ℕ → List ℕ → Result (List (List Raw)) DataFault
sample_raws list compressed n octets =
    result_map (λ found. map (λ s. map (λ f. f.raw) s.fields) found.0)
    (subsets_in (sample_tree list) compressed n (bits octets))

-- the subsets that were read, written compressed
abbrev pub written_compressed :
    Tree → Result (List Subset × List Bool) DataFault → Result (List Bool) MisfitFault
written_compressed tree (Ok found) = written_bits tree true found.0
written_compressed tree (Err e) = Ok []

-- octets of data, read and written compressed
abbrev pub recompressed : List ℕ → Bool → ℕ → List ℕ → Result (List Bool) MisfitFault
recompressed list compressed n octets =
    written_compressed (sample_tree list) (subsets_in (sample_tree list) compressed n (bits octets))

-- a column of numbers of `width` bits
abbrev pub number_spec : ℕ → Spec
number_spec width =
    record { kind = kinds.Quantity; scale = pos 0; reference = pos 0; width = width }

-- a text of this length in octets
abbrev pub text_spec : ℕ → Spec
text_spec octets =
    record { kind = kinds.Text; scale = pos 0; reference = pos 0; width = octets * 8 }

-- whether each field of the subsets in octets of data is missing
abbrev pub sample_missing : List ℕ → Bool → ℕ → List ℕ → Result (List (List Bool)) DataFault
sample_missing list compressed n octets =
    result_map (λ found. map (λ s. map is_missing s.fields) found.0)
    (subsets_in (sample_tree list) compressed n (bits octets))

-- the texts of the values in octets of data
abbrev pub sample_texts :
    List ℕ → Bool → ℕ → List ℕ → Result (List (List (Option (List ℕ)))) DataFault
sample_texts list compressed n octets =
    result_map (λ found. map (λ s. map (λ f. option_map text_of (value f)) s.fields) found.0)
    (subsets_in (sample_tree list) compressed n (bits octets))

-- the bits written of subsets with these fields
abbrev pub written_of : List ℕ → Bool → List (List Field) → Result (List Bool) MisfitFault
written_of list compressed subsets =
    written_bits (sample_tree list) compressed (map (λ fs. record { fields = fs }) subsets)
