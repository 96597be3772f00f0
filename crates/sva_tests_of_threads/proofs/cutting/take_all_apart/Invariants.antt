use Rattle.sva_tests_of_threads.proofs.cutting.take_all_apart.Given as goal

abbrev pub decreases-loop-state : goal.decreases-loop-state
decreases-loop-state g l = goal.left-loop-state g l
