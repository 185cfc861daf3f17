use Rattle.nk_policy.proofs.LinkStructure.{at_sources, off_link_at_sources, between, on_link, off_link}
use Rattle.nk_policy.proofs.laws.links_take_turns.Goals as goal

pub returns-clause-start : goal.returns-clause-start
returns-clause-start c = λ p d. at_sources p d

pub returns-clause-on_link : goal.returns-clause-on_link
returns-clause-on_link c = λ p i k h. on_link p i k h

pub returns-clause-off_link : goal.returns-clause-off_link
returns-clause-off_link c = λ p i d k h. off_link_at_sources p i d k h

pub returns-clause-start_stays : goal.returns-clause-start_stays
returns-clause-start_stays c = λ p d s. between p d s

pub returns-clause-off_link_stays : goal.returns-clause-off_link_stays
returns-clause-off_link_stays c = λ p i d s k h. off_link p i d s k h
