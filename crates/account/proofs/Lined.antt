-- What letters give.
use Rattle.std.proofs.Common.{◌≡◌, ℕ, Some, None, List, refl, ap, sym}
use Rattle.post_office.specs.declared.letter.Letter.{Letter}
use Rattle.post_office.specs.declared.letter.Body.{Body as Mail}
use Rattle.post_office.specs.declared.letter.Body.TheVariants as mails
use Rattle.lane_turn.specs.Lane.{Lane}
use Rattle.lane_turn.specs.Handover.{handing_by, handing_of}
use Rattle.account.specs.declared.gift.Gift.{Gift}
use Rattle.account.specs.Gifts.{gift_by, gift_of}

gives_none : (sender : ℕ) (body : Mail) (lanes : List Lane) → gift_by sender body ≡ None → handing_by sender body lanes ≡ None
gives_none sender (mails.Give context to) lanes e = cc
gives_none sender (mails.Attach context spec) lanes e = refl
gives_none sender (mails.Complete reply) lanes e = refl
gives_none sender (mails.Cancelled c) lanes e = refl

pub no_gift : (letter : Letter) (lanes : List Lane) → gift_of letter ≡ None → handing_of letter lanes ≡ None
no_gift letter lanes e = gives_none letter.sender letter.body lanes e

gives_some : (sender : ℕ) (body : Mail) (lanes : List Lane) (gift : Gift) → gift_by sender body ≡ Some gift → handing_by gift.from (mails.Give gift.context gift.to) lanes ≡ handing_by sender body lanes
gives_some sender (mails.Give context to) lanes gift e = by gift (same gift e)
  where
    mine : Gift
    mine = record { from = sender; to = to; context = context }

    same : (g : Gift) → Some mine ≡ Some g → mine ≡ g
    same g p = cc

    by : (g : Gift) → mine ≡ g → handing_by g.from (mails.Give g.context g.to) lanes ≡ handing_by sender (mails.Give context to) lanes
    by g p = ap (λ (x : Gift). handing_by x.from (mails.Give x.context x.to) lanes) (sym p)
gives_some sender (mails.Attach context spec) lanes gift e = cc
gives_some sender (mails.Complete reply) lanes gift e = cc
gives_some sender (mails.Cancelled c) lanes gift e = cc

pub gift_goes : (letter : Letter) (lanes : List Lane) (gift : Gift) → gift_of letter ≡ Some gift → handing_by gift.from (mails.Give gift.context gift.to) lanes ≡ handing_of letter lanes
gift_goes letter lanes gift e = gives_some letter.sender letter.body lanes gift e
