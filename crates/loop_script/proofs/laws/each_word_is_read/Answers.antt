use Rattle.std.proofs.Common.{refl}
use Rattle.loop_script.specs.Number.{whole, integer, index, index_or_null, slot, bits, priority, ready_time, count_or, flag, flag_or}
use Rattle.loop_script.specs.Object.{only}
use Rattle.loop_script.specs.Array.{arity}
use Rattle.loop_script.specs.Rows.{rows, rows_or}
use Rattle.loop_script.specs.Level.{level, levels}
use Rattle.loop_script.specs.Source.{idle, timeout, ready, fd, cancel as cancel_kind, kind, priority_or, source_spec, child_spec}
use Rattle.loop_script.specs.Action.{attach, child, destroy, set_ready, set_priority, iterate, pending, run, quit, cancel, connect, disconnect, task, push, pop, show_default, acquire, release, invoke, give, log, action}
use Rattle.loop_script.specs.TreeForm.{value_form, fail_form, sleep_form, check_form, tree, tree_in, trees_in}
use Rattle.loop_script.specs.TaskForm.{shallow_tree, priority_or_zero, task_spec}
use Rattle.loop_script.specs.Plan.{actions, lane, lanes, keep_or, procedure, plan}
use Rattle.loop_script.proofs.laws.each_word_is_read.Goals as goal

pub returns : goal.returns
unfolding whole integer index index_or_null slot bits priority ready_time count_or flag flag_or only arity rows rows_or level levels idle timeout ready fd cancel_kind kind priority_or source_spec child_spec attach child destroy set_ready set_priority iterate pending run quit cancel connect disconnect task push pop show_default acquire release invoke give value_form fail_form sleep_form check_form tree tree_in trees_in shallow_tree priority_or_zero task_spec log action actions lane lanes keep_or procedure plan
returns c = refl
