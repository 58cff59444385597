-- one word less at each bar
use Rattle.named.proofs.bits.+bits_in.Given as goal

abbrev pub decreases-bits_in : goal.decreases-bits_in
decreases-bits_in l = l.most
