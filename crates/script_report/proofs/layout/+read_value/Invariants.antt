-- the levels that are left fall
use Rattle.std.proofs.Common.{◌+◌, ◌*◌}
use Rattle.script_report.proofs.layout.+read_value.Given as goal

abbrev pub decreases-read_value : goal.decreases-read_value
decreases-read_value l = 2 * l.levels

abbrev pub decreases-read_list : goal.decreases-read_list
decreases-read_list l = 2 * l.levels + 1

abbrev pub decreases-read_object : goal.decreases-read_object
decreases-read_object l = 2 * l.levels + 1
