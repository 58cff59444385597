-- What letters give.
use Rattle.std.specs.Prelude.{Option, Some, None}
use Rattle.loop_script.specs.Units.{LaneNumber}
use Rattle.post_office.specs.declared.letter.Letter.{Letter}
use Rattle.post_office.specs.declared.letter.Body.{Body as Mail}
use Rattle.post_office.specs.declared.letter.Body.TheVariants as mails
use Rattle.account.specs.declared.gift.Gift.{Gift}

-- the context that a lane's letter gives, if it gives one
abbrev pub gift_by : LaneNumber → Mail → Option Gift
gift_by sender (mails.Give context to) = Some (record { from = sender; to = to; context = context })
gift_by sender (mails.Attach context spec) = None
gift_by sender (mails.Complete reply) = None
gift_by sender (mails.Cancelled c) = None

-- the context that a letter gives, if it gives one
abbrev pub gift_of : Letter → Option Gift
gift_of letter = gift_by letter.sender letter.body
