use Rattle.sva_tests_of_threads.proofs.cutting.append.Given as goal

abbrev pub decreases-loop-one : goal.decreases-loop-one
decreases-loop-one g l = goal.left-loop-one g l
