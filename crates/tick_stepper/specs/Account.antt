-- A run of one thread, one move at a time.
use Rattle.std.specs.Prelude.{◌≡◌, ◌+◌, ◌⊎◌, Option, Some, None, List, [], ◌∷◌, ◌++◌, map}
use Rattle.std.specs.List.{AllByRecursion}
use Rattle.loop_script.specs.declared.plan.Plan.{Plan}
use Rattle.post_office.specs.declared.letter.Letter.{Letter}
use Rattle.lane_turn.specs.declared.line.Line.{Line}
use Rattle.lane_turn.specs.Lane.{Lane, Turn}
use Rattle.lane_turn.specs.Step.{step}
use Rattle.lane_turn.specs.Turn.{begun, finished, turned}
use Rattle.lane_turn.specs.Deliver.{received, received_all, delivered}
use Rattle.lane_turn.specs.Handover.{moved as gone_over, handing_of, handed_over}
use Rattle.lane_turn.specs.Quiet.{at_tick, IsQuiet}
use Rattle.lane_turn.specs.Tick.{posted_at, ticked}
use Rattle.loop_script.specs.Units.{Tick}

-- where one thread is in a tick. At first: the lanes that are through with their turns, the turn that is in progress, the lanes that wait, and
-- what those that are through have posted. Then: all lanes, the letters whose contexts are still to go over, and all letters. Then: the
-- lanes that have all letters, those that wait, of which the first has some letters left, and all letters
pub data Place : Type 0 where
  Turning : (over : List Lane) (held : Option Turn) (waiting : List Lane) (posted : List Letter) → Place
  Giving : (lanes : List Lane) (left letters : List Letter) → Place
  Bringing : (over : List Lane) (waiting : List Lane) (left letters : List Letter) → Place

-- a tick in which nothing is done yet
abbrev pub started : List Lane → Place
started lanes = Turning [] None lanes []

-- the turn in progress goes on, or is over
abbrev pub turned_on : List Lane → Turn → List Lane → List Letter → Option Turn → Place
turned_on over t waiting posted (Some u) = Turning over (Some u) waiting posted
turned_on over t waiting posted None = Turning (over ++ t.lane ∷ []) None waiting (posted ++ t.posted)

-- one move: a step of the turn in progress, or its end; a turn begins; the context that a letter gives goes over; a letter is brought, or a lane
-- has them all. None where the tick is over
abbrev pub moved : Plan → Tick → Place → Option Place
moved script tick (Turning over (Some t) waiting posted) = Some (turned_on over t waiting posted (step script tick t))
moved script tick (Turning over None (lane ∷ waiting) posted) = Some (Turning over (Some (begun tick lane)) waiting posted)
moved script tick (Turning over None [] posted) = Some (Giving over posted posted)
moved script tick (Giving lanes (letter ∷ left) letters) = Some (Giving (gone_over tick (handing_of letter lanes) lanes) left letters)
moved script tick (Giving lanes [] letters) = Some (Bringing [] lanes letters letters)
moved script tick (Bringing over (lane ∷ waiting) (letter ∷ left) letters) = Some (Bringing over (received script tick letter lane ∷ waiting) left letters)
moved script tick (Bringing over (lane ∷ waiting) [] letters) = Some (Bringing (over ++ lane ∷ []) waiting letters letters)
moved script tick (Bringing over [] left letters) = None

-- the lane of the turn in progress
abbrev pub held_lanes : Option Turn → List Lane
held_lanes None = []
held_lanes (Some t) = t.lane ∷ []

-- the lanes as they are
abbrev pub lanes_in : Place → List Lane
lanes_in (Turning over held waiting posted) = over ++ (held_lanes held ++ waiting)
lanes_in (Giving lanes left letters) = lanes
lanes_in (Bringing over waiting left letters) = over ++ waiting

-- the turn in progress, when it is over
abbrev pub held_end : Plan → Tick → Option Turn → Option Turn
held_end script tick None = None
held_end script tick (Some t) = Some (finished script tick t)

-- what the turn in progress has posted
abbrev pub held_posted : Option Turn → List Letter
held_posted None = []
held_posted (Some t) = t.posted

-- the lanes that wait for letters, when all have them
abbrev pub all_brought : Plan → Tick → (waiting : List Lane) → (left letters : List Letter) → List Lane
all_brought script tick [] left letters = []
all_brought script tick (lane ∷ waiting) left letters = received_all script tick left lane ∷ map (received_all script tick letters) waiting

-- the lanes when the tick is over
abbrev pub end_of : Plan → Tick → Place → List Lane
end_of script tick (Turning over held waiting posted) =
    delivered script tick (posted ++ (held_posted (held_end script tick held) ++ posted_at script tick waiting))
    (over ++ (held_lanes (held_end script tick held) ++ map (turned script tick) waiting))
end_of script tick (Giving lanes left letters) = map (received_all script tick letters) (handed_over tick left lanes)
end_of script tick (Bringing over waiting left letters) = over ++ all_brought script tick waiting left letters

-- lanes of which one changes at most, and writes only lines of the tick behind its others
pub record OneChanges (tick : Tick) (lanes now : List Lane) : Type 0 where
  pub before : List Lane
  pub lane : Lane
  pub next : Lane
  pub behind : List Lane
  pub was : lanes ≡ before ++ lane ∷ behind
  pub is : now ≡ before ++ next ∷ behind
  pub lines : List Line
  pub grows : next.trace ≡ lane.trace ++ lines
  pub ticks : AllByRecursion (λ line. line.tick ≡ tick) lines

-- what moves lead to
pub record MovesLead : Type 0 where
  -- from its start a tick comes to the lanes after it
  pub starts : (script : Plan) (tick : Tick) (lanes : List Lane) → end_of script tick (started lanes) ≡ ticked script tick lanes
  -- no move changes where it comes to
  pub leads : (script : Plan) (tick : Tick) (p q : Place) → moved script tick p ≡ Some q → end_of script tick q ≡ end_of script tick p
  -- nor does it where a lane whose turn would be quiet is passed over, as the sparse run passes it
  pub passes : (script : Plan) (tick : Tick) (over : List Lane) (lane : Lane) (waiting : List Lane) (posted : List Letter) → IsQuiet script tick lane
      → end_of script tick (Turning (over ++ at_tick (tick + 1) lane ∷ []) None waiting posted) ≡ end_of script tick (Turning over None (at_tick tick lane ∷ waiting) posted)
  -- and when no move is left the lanes are there
  pub ends : (script : Plan) (tick : Tick) (p : Place) → moved script tick p ≡ None → lanes_in p ≡ end_of script tick p

-- while contexts go over, the one that the next letter gives goes from lane to lane, if that gives one
pub record OneGoesOver (tick : Tick) (p q : Place) : Type 0 where
  pub lanes : List Lane
  pub letter : Letter
  pub left : List Letter
  pub letters : List Letter
  pub was : p ≡ Giving lanes (letter ∷ left) letters
  pub is : lanes_in q ≡ gone_over tick (handing_of letter lanes) lanes

-- each move changes one lane at most, whose new lines are those of the move, or hands over the context that comes next
abbrev pub MovesChangeOne : Type 0
MovesChangeOne = (script : Plan) (tick : Tick) (p q : Place) → moved script tick p ≡ Some q
    → (lanes_in q ≡ lanes_in p) ⊎ (OneChanges tick (lanes_in p) (lanes_in q) ⊎ OneGoesOver tick p q)
