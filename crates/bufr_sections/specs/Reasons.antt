-- The text of a refusal: its number, its name and its values.
use Rattle.std.specs.Prelude.{ℕ, List, ◌++◌, codes, decimal}
use Rattle.bufr_expand.specs.Reasons.{template_reason}
use Rattle.bufr_fields.specs.Reasons.{read_reason}
use Rattle.bufr_sections.specs.declared.fault.Refused.{Refused}
use Rattle.bufr_sections.specs.declared.fault.Refused.TheVariants.{NotBufr, Edition, TotalLength}
use Rattle.bufr_sections.specs.declared.fault.Refused.TheVariants.{NoEnd, Section1Length}
use Rattle.bufr_sections.specs.declared.fault.Refused.TheVariants.{MasterTable, Section2Length}
use Rattle.bufr_sections.specs.declared.fault.Refused.TheVariants.{Section3Length, Section4Length}
use Rattle.bufr_sections.specs.declared.fault.Refused.TheVariants.{Template, Data}

-- the text that a refusal prints
unfoldable pub reason : Refused → List ℕ
reason NotBufr = codes "M1 NotBufr"
reason (Edition n) = codes "M2 Edition " ++ decimal n
reason TotalLength = codes "M3 TotalLength"
reason NoEnd = codes "M4 NoEnd"
reason Section1Length = codes "M5 Section1Length"
reason (MasterTable n) = codes "M6 MasterTable " ++ decimal n
reason Section2Length = codes "M7 Section2Length"
reason Section3Length = codes "M8 Section3Length"
reason Section4Length = codes "M9 Section4Length"
reason (Template why) = template_reason why
reason (Data why) = read_reason why
