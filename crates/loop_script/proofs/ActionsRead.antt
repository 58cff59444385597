-- Tasks and actions are read by their tables.
use Rattle.std.proofs.Common.{◌≡◌, inl, refl, ℕ, ℤ, pos, negsuc, true, false, List, [], codes, Option, Some, None, option_and_then}
use Rattle.std.specs.Prelude.{unwrap_or}
use Rattle.serde_json.specs.Data.{Data}
use Rattle.serde_json.specs.Find.{get}
use Rattle.loop_script.specs.Read.{misshapen}
use Rattle.loop_script.specs.Number.{whole as whole_of, integer as integer_read, index, index_or_null, slot, priority, ready_time, flag_or}
use Rattle.loop_script.specs.Words.{choice}
use Rattle.loop_script.specs.TaskForm.{priority_or_zero, task_spec}
use Rattle.loop_script.specs.Action.{attach, child, destroy, set_ready, set_priority, iterate, pending, run, quit, cancel, connect, disconnect, task, push, pop, show_default, acquire, release, invoke, give, log, forms, action as action_of}
use Rattle.loop_script.specs.Form.{Object, whole, whole_or_null, truth, an, one_of, tree, action}
use Rattle.loop_script.specs.Tables as tables
use Rattle.loop_script.specs.Place.{front, parts_of}
use Rattle.loop_script.specs.Misfit.{IsOutOfRange, IsMisshapen, IsBeyond}
use Rattle.loop_script.specs.Meaning.{IsTask, IsAction}
use Rattle.loop_script.specs.declared.task.TaskSpec.{TaskSpec}
use Rattle.loop_script.specs.declared.action.Action.{Action}
use Rattle.loop_script.specs.declared.action.Action.TheVariants.{Attach, Child, Destroy, SetReady, SetPriority, Iterate, Pending, Run, Quit, Cancel, Connect, Disconnect, Task, Push, Pop, ShowDefault, Acquire, Release, Invoke, Give, Log}
use Rattle.loop_script.proofs.Meets.{Meets, meets_done, meets_misshapen, next}
use Rattle.loop_script.proofs.Openings.{an_object}
use Rattle.loop_script.proofs.Behind.{WordMisfit, BehindWord, RowsMeet, chosen, a_choice}
use Rattle.loop_script.proofs.Leaves.{Reads, of_needed, of_free, reads_whole, reads_signed, reads_null, reads_truth, keys_at}
use Rattle.loop_script.proofs.WordRows.{begun, row0, row1, row2, row3}
use Rattle.loop_script.proofs.SourcesRead.{reads_source, reads_child}
use Rattle.loop_script.proofs.TreesRead.{reads_tree}

task_at : (d : Data) → Meets (Unit {0}) TaskSpec (task_spec (Some d)) (IsMisshapen (an Object.task) d) (IsBeyond (an Object.task) d) (IsTask (Some d))
unfolding task_spec priority_or_zero priority flag_or index_or_null index
task_at d =
    an_object Object.task d (next (keys_at (tables.keys Object.task) d) (
    next (of_needed (tables.needed (codes "tree") (one_of (tree 16))) refl reads_tree (get (codes "tree") d)) (
    next (of_needed (tables.needed (codes "call") tables.index) refl (reads_whole 0 4294967295) (get (codes "call") d)) (
    next (of_free {A = Option ℕ} (tables.optional (codes "cancel") (whole_or_null 0 4294967295)) None refl (reads_null 0 4294967295) (get (codes "cancel") d)) (
    next (of_free (tables.optional (codes "check") truth) true refl (reads_truth true) (get (codes "check") d)) (
    next (of_free (tables.optional (codes "return_on_cancel") truth) false refl (reads_truth false) (get (codes "return_on_cancel") d)) (
    next (of_free (tables.optional (codes "priority") tables.priority) (pos 0) refl (reads_signed (negsuc 2147483647) (pos 2147483647)) (get (codes "priority") d)) (
    meets_done _ (λ x. x) (λ x. x) (λ p r k c a t u. record { tree = t; call = a; cancel = c; check = k; return_on_cancel = r; priority = p })))))))))

reads_task : Reads (an Object.task) TaskSpec task_spec IsTask
unfolding task_spec priority_or_zero index_or_null flag_or index whole_of
reads_task = record { there = task_at; absent = λ s. refl }

action_rows : (d : Data) (w : List ℕ) → front d ≡ Some w → RowsMeet (Unit {0}) Action (IsAction (Some d)) d w (tables.words action) (forms (Some d))
unfolding attach child destroy set_ready set_priority iterate pending run quit cancel connect disconnect task push pop show_default acquire release invoke give log index slot priority ready_time
action_rows d w f =
    let numbered : Reads tables.index ℕ (whole_of 0 4294967295) _ = reads_whole 0 4294967295 in
    let slotted : Reads tables.slot ℕ (whole_of 0 255) _ = reads_whole 0 255 in
    let prior : Reads tables.priority ℤ (integer_read (negsuc 2147483647) (pos 2147483647)) _ = reads_signed (negsuc 2147483647) (pos 2147483647) in
    let timed : Reads tables.ready_time ℤ (integer_read (negsuc 0) (pos 1000000000000000)) _ = reads_signed (negsuc 0) (pos 1000000000000000) in (
      (refl, λ e. row3 d tables.index tables.slot (an Object.source) numbered slotted reads_source Attach (λ x y z l a b c. ((begun d f e, l), a, b, c))),
      (
        (refl, λ e. row3 d tables.slot tables.slot (an Object.child) slotted slotted reads_child Child (λ x y z l a b c. ((begun d f e, l), a, b, c))),
        (
          (refl, λ e. row1 d tables.slot slotted Destroy (λ x l a. ((begun d f e, l), a))),
          (
            (refl, λ e. row2 d tables.slot tables.ready_time slotted timed SetReady (λ x y l a b. ((begun d f e, l), a, b))),
            (
              (refl, λ e. row2 d tables.slot tables.priority slotted prior SetPriority (λ x y l a b. ((begun d f e, l), a, b))),
              (
                (refl, λ e. row1 d tables.index numbered Iterate (λ x l a. ((begun d f e, l), a))),
                (
                  (refl, λ e. row1 d tables.index numbered Pending (λ x l a. ((begun d f e, l), a))),
                  (
                    (refl, λ e. row1 d tables.index numbered Run (λ x l a. ((begun d f e, l), a))),
                    (
                      (refl, λ e. row1 d tables.index numbered Quit (λ x l a. ((begun d f e, l), a))),
                      (
                        (refl, λ e. row1 d tables.index numbered Cancel (λ x l a. ((begun d f e, l), a))),
                        (
                          (refl, λ e. row3 d tables.index tables.slot tables.index numbered slotted numbered Connect (λ x y z l a b c. ((begun d f e, l), a, b, c))),
                          (
                            (refl, λ e. row1 d tables.slot slotted Disconnect (λ x l a. ((begun d f e, l), a))),
                            (
                              (refl, λ e. row1 d (an Object.task) reads_task Task (λ x l a. ((begun d f e, l), a))),
                              (
                                (refl, λ e. row1 d tables.index numbered Push (λ x l a. ((begun d f e, l), a))),
                                (
                                  (refl, λ e. row1 d tables.index numbered Pop (λ x l a. ((begun d f e, l), a))),
                                  (
                                    (refl, λ e. row0 d ShowDefault (λ l. (begun d f e, l))),
                                    (
                                      (refl, λ e. row1 d tables.index numbered Acquire (λ x l a. ((begun d f e, l), a))),
                                      (
                                        (refl, λ e. row1 d tables.index numbered Release (λ x l a. ((begun d f e, l), a))),
                                        (
                                          (refl, λ e. row2 d tables.index tables.index numbered numbered Invoke (λ x y l a b. ((begun d f e, l), a, b))),
                                          (
                                            (refl, λ e. row2 d tables.index tables.index numbered numbered Give (λ x y l a b. ((begun d f e, l), a, b))),
                                            (
                                              (refl, λ e. row1 d (whole 0 4294967295) numbered Log (λ x l a. ((begun d f e, l), a))),
                                              tt,
                                            ),
                                          ),
                                        ),
                                      ),
                                    ),
                                  ),
                                ),
                              ),
                            ),
                          ),
                        ),
                      ),
                    ),
                  ),
                ),
              ),
            ),
          ),
        ),
      ),
    )

action_by : (d : Data) (o : Option (List ℕ)) → front d ≡ o → Meets (Unit {0}) Action (choice (unwrap_or o []) (forms (Some d)) (misshapen (Log 0))) (WordMisfit (option_and_then (parts_of (tables.words action)) o) d) (BehindWord IsOutOfRange (option_and_then (parts_of (tables.words action)) o) d) (IsAction (Some d))
action_by d None e = meets_misshapen (Log 0) (inl tt)
action_by d (Some w) e = chosen d w (tables.words action) (forms (Some d)) (Log 0) (action_rows d w e)

pub reads_action : Reads (one_of action) Action action_of IsAction
unfolding action_of
reads_action = record { there = λ d. a_choice action d (λ q x. x) (action_by d (front d) refl); absent = λ s. refl }
