use Rattle.std.proofs.Common.{refl}
use Rattle.lane_turn.proofs.Turns.{out_numbered, turned_number}
use Rattle.lane_turn.proofs.Delivered.{received_number}
use Rattle.lane_turn.proofs.GoingOver.{handed_part}
use Rattle.lane_turn.specs.Lane.{Lane}
use Rattle.lane_turn.proofs.laws.letters_tell.Goals as goal

pub returns : goal.returns
returns c = record { numbered = out_numbered; turned = turned_number; handed = λ tick hs lane. handed_part (λ (l : Lane). l.number) tick (λ kept l. refl) (λ c l. refl) hs lane; received = received_number }
