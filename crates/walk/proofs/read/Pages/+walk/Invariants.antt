-- `walk` gives `walked`, by recursion: the measure is the level, which falls with each call.
use Rattle.walk.proofs.read.Pages.+walk.Given as goal

abbrev pub decreases-walk : goal.decreases-walk
decreases-walk l = l.level
