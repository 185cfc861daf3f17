use Rattle.nk_virtual.proofs.StaticFaults.{physical_tag_free, physical_dups, physical_switch, physical_links}
use Rattle.nk_virtual.proofs.laws.physical_policies_stay_plain.Goals as goal

pub returns-clause-tag_free : goal.returns-clause-tag_free
returns-clause-tag_free c = λ tag links p past o h fabrics n. physical_tag_free links p o n tag past h fabrics

pub returns-clause-dups_in_links : goal.returns-clause-dups_in_links
returns-clause-dups_in_links c = λ links p o h fabrics n. physical_dups links p o n h fabrics

pub returns-clause-switch_in_links : goal.returns-clause-switch_in_links
returns-clause-switch_in_links c = λ links p o h fabrics n. physical_switch links p o n h fabrics

pub returns-clause-links_declared : goal.returns-clause-links_declared
returns-clause-links_declared c = λ declared links p o h fabrics n. physical_links links p o n declared h fabrics
