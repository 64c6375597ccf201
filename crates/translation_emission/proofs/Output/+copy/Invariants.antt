-- The record number falls.
use Rattle.translation_emission.proofs.Output.+copy.Given as goal

abbrev pub decreases-copy : goal.decreases-copy
decreases-copy l = l.n
