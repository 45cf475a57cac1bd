-- The loop of `columns_of`: the words so far, and those that are left.
use Rattle.std.proofs.Common.{length}
use Rattle.std.specs.Str.{IsUtf8}
use Rattle.bufr_select_rows.proofs.ColumnFacts.{HasNamed}
use Rattle.bufr_select_rows.proofs.column_words.columns_of.Given as goal

-- the columns of the words so far are there, and what is left is text
abbrev pub invariant-words : goal.invariant-words
invariant-words l = HasNamed l.fn.text l.rest l.columns.items × IsUtf8 l.rest

-- the octets that are left
abbrev pub decreases-words : goal.decreases-words
decreases-words l = length l.rest
