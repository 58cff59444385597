use Rattle.test_data.proofs.plain.Plain.+list_under.Given as goal

abbrev pub decreases-list_under : goal.decreases-list_under
decreases-list_under l = l.levels
