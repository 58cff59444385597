use Rattle.post_office.proofs.Changed.{takes_are_claims, pushes_are_posts, lists_move_back}
use Rattle.post_office.proofs.WorkQueues.{each_is_there_once}
use Rattle.post_office.proofs.LetterQueues.{letters_are_merged}
use Rattle.post_office.proofs.laws.queues_follow.Goals as goal

pub returns : goal.returns
returns g c = record { takes = takes_are_claims _; pushes = pushes_are_posts; back = lists_move_back _; once = each_is_there_once; merged = letters_are_merged }
