-- The limits of templates, fields and messages, each a constant of the code, for data and messages
-- too.
use Rattle.std.specs.Prelude.{ℕ, ◌+◌}
use Rattle.bufr_expand.specs.declared.limits.TheConstants.{MOST_ITEMS, MOST_NODES}
use Rattle.bufr_expand.specs.declared.limits.TheConstants.{MOST_SEQUENCE_LEVELS}
use Rattle.bufr_expand.specs.declared.limits.TheConstants.{MOST_REPLICATION_LEVELS}
use Rattle.bufr_expand.specs.declared.limits.TheConstants.{MOST_NUMBER_BITS, MOST_TEXT_BITS}
use Rattle.bufr_expand.specs.declared.limits.TheConstants.{MOST_FACTOR_BITS, MOST_SCALE}
use Rattle.bufr_expand.specs.declared.limits.TheConstants.{MOST_REFERENCE}

-- the most items of a message: each node met and each turn begun is one
abbrev pub most_items : ℕ
most_items = MOST_ITEMS

-- the most nodes of a template
abbrev pub most_nodes : ℕ
most_nodes = MOST_NODES

-- the most levels of sequences
abbrev pub most_sequence_levels : ℕ
most_sequence_levels = MOST_SEQUENCE_LEVELS

-- the most levels of replications
abbrev pub most_replication_levels : ℕ
most_replication_levels = MOST_REPLICATION_LEVELS

-- the most open lists of an expansion: the template's own, and one for each level
abbrev pub most_lists : ℕ
most_lists = 1 + most_sequence_levels + most_replication_levels

-- the most bits of a number
abbrev pub most_number_bits : ℕ
most_number_bits = MOST_NUMBER_BITS

-- the most bits of a text: 8,191 octets
abbrev pub most_text_bits : ℕ
most_text_bits = MOST_TEXT_BITS

-- the most bits of a delayed replication factor
abbrev pub most_factor_bits : ℕ
most_factor_bits = MOST_FACTOR_BITS

-- the greatest scale in Table B, above or below 0
abbrev pub most_scale : ℕ
most_scale = MOST_SCALE

-- the greatest reference value, above or below 0: 2 to the power of 62
abbrev pub most_reference : ℕ
most_reference = MOST_REFERENCE
