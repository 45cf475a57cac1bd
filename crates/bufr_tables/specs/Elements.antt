-- Equal rows of Table B (FM 94 BUFR, Table B: unit, scale, reference value and data width).
use Rattle.std.specs.Prelude.{◌==◌, ◌&&◌, Bool, true, false, ℤ, pos, negsuc}
use Rattle.bufr_tables.specs.declared.element.Element.{Element}
use Rattle.bufr_tables.specs.declared.element.Kind.{Kind}
use Rattle.bufr_tables.specs.declared.element.Kind.TheVariants as kinds

-- whether two kinds are equal
abbrev pub same_kind : Kind → Kind → Bool
same_kind kinds.Text kinds.Text = true
same_kind kinds.Code kinds.Code = true
same_kind kinds.Flag kinds.Flag = true
same_kind kinds.Quantity kinds.Quantity = true
same_kind kinds.Count kinds.Count = true
same_kind _ _ = false

-- whether two integers are equal
abbrev pub same_integer : ℤ → ℤ → Bool
same_integer (pos a) (pos b) = a == b
same_integer (negsuc a) (negsuc b) = a == b
same_integer _ _ = false

-- whether two rows of Table B are equal
abbrev pub same_element : Element → Element → Bool
same_element a b =
    same_kind a.kind b.kind && (same_integer a.scale b.scale
    && (same_integer a.reference b.reference && a.width == b.width))
