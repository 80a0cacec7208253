-- The law, from its lemmas.
use Rattle.sweep_due.proofs.CertificatesLaws.{all_right, each_weaker}
use Rattle.sweep_due.proofs.certificate_laws.certificates_of_a_sweep_are_valid.Goals as goal

pub returns-clause-valid : goal.returns-clause-valid
returns-clause-valid c words contents o config records cs asks loaded are =
    each_weaker _ _ (λ i d right. right.0) _ cs (all_right contents c.blocks_share_the_sequences.ensures words o config records asks loaded cs are)

pub returns-clause-parts : goal.returns-clause-parts
returns-clause-parts c words contents o config records cs asks loaded are =
    each_weaker _ _ (λ i d right. right.1) _ cs (all_right contents c.blocks_share_the_sequences.ensures words o config records asks loaded cs are)

pub returns-clause-accepted : goal.returns-clause-accepted
returns-clause-accepted c words contents o config records cs asks loaded are =
    each_weaker _ _ (λ i d right. right.2) _ cs (all_right contents c.blocks_share_the_sequences.ensures words o config records asks loaded cs are)
