use Rattle.source_rows.proofs.Sound.{sound_none, sound_attached, sound_child, sound_destroyed, sound_reprioritised, sound_ready_set, sound_counted}
use Rattle.source_rows.proofs.laws.edits_keep_trees.Goals as goal

pub returns : goal.returns
returns c = record {
  none = sound_none;
  attached = sound_attached;
  child_added = sound_child;
  reprioritised = sound_reprioritised;
  destroyed = sound_destroyed;
  ready_set = sound_ready_set;
  counted = sound_counted;
}
