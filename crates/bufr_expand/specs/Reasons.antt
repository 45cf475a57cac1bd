-- The printed refusals of lists: number, name and values.
use Rattle.std.specs.Prelude.{ℕ, List, ◌++◌, codes}
use Rattle.bufr_tables.specs.Descriptors.{six_digits}
use Rattle.bufr_expand.specs.declared.node.TemplateFault.{TemplateFault}
use Rattle.bufr_expand.specs.declared.node.TemplateFault.TheVariants.{UnknownElement}
use Rattle.bufr_expand.specs.declared.node.TemplateFault.TheVariants.{UnknownSequence}
use Rattle.bufr_expand.specs.declared.node.TemplateFault.TheVariants.{UnsupportedOperator}
use Rattle.bufr_expand.specs.declared.node.TemplateFault.TheVariants.{BadReplication, BadFactor}
use Rattle.bufr_expand.specs.declared.node.TemplateFault.TheVariants.{BadOperand, Dangling206}
use Rattle.bufr_expand.specs.declared.node.TemplateFault.TheVariants.{TooDeep, TooManyNodes}

-- the printed refusal of a list of descriptors
unfoldable pub template_reason : TemplateFault → List ℕ
template_reason (UnknownElement d) = codes "X1 UnknownElement " ++ six_digits d
template_reason (UnknownSequence d) = codes "X2 UnknownSequence " ++ six_digits d
template_reason (UnsupportedOperator d) = codes "X3 UnsupportedOperator " ++ six_digits d
template_reason (BadReplication d) = codes "X4 BadReplication " ++ six_digits d
template_reason (BadFactor d) = codes "X5 BadFactor " ++ six_digits d
template_reason (BadOperand d) = codes "X6 BadOperand " ++ six_digits d
template_reason (Dangling206 d) = codes "X7 Dangling206 " ++ six_digits d
template_reason TooDeep = codes "X8 TooDeep"
template_reason TooManyNodes = codes "X9 TooManyNodes"
