-- The move that an act is, by the numbers and labels that its names bear where it is done.
use Rattle.std.specs.Prelude.{ℕ, List, [], ◌∷◌}
use Rattle.sva_model.specs.Message.{Message}
use Rattle.sva_model.specs.Message.Message.{InvalidatedMessage}
use Rattle.sva_model.specs.State.{Mappings, Endpoint, World}
use Rattle.sva_model.specs.StateChanges.{binding_of, extent_of}
use Rattle.sva_model.specs.Acts.{Act, LocalAct, act}
use Rattle.sva_model.specs.Wire.{number, cookie_number, translation_wire, page_request_wire, group_job, job_wire}
use Rattle.sva_labels.specs.Moves.{Move}
use Rattle.sva_labels.specs.Outcomes.{count_read}

-- a completion of invalidations counts as its message says
abbrev pub count_move : (first endpoint message : ℕ) → Message → Move
count_move first e c (InvalidatedMessage vector field) = Move.Count e (number first c) vector (count_read field)
count_move first e c _ = Move.Ignore (number first c)

-- an act of one endpoint with its unit
abbrev pub own_move : (first endpoint : ℕ) → Mappings → Endpoint → LocalAct → Move
own_move first e ms p (LocalAct.Bind b s t) = Move.Bind e (number first s) (number first b) t
own_move first e ms p (LocalAct.Stop b) = Move.Stop e (number first b) (p.pasid b)
own_move first e ms p (LocalAct.Drain b cookie) = Move.Drain e (number first b)
own_move first e ms p (LocalAct.Invalidate b cookie) = Move.Invalidate e (number first b) (p.pasid b)
own_move first e ms p (LocalAct.Quieten b) = Move.Quieten (number first b)
own_move first e ms p (LocalAct.Release b) = Move.Release (number first b)
own_move first e ms p (LocalAct.Send k t) = Move.Send e t (p.pasid (binding_of (p.order k))) (extent_of (p.order k))
own_move first e ms p (LocalAct.Pass k) = Move.Pass e (cookie_number first (p.order k))
own_move first e ms p (LocalAct.File r) = Move.File e (number first (p.asker (p.group_of r))) (page_request_wire p r)
own_move first e ms p LocalAct.Reset = Move.Reset e
own_move first e ms p (LocalAct.Hand g x) = Move.Hand
own_move first e ms p (LocalAct.Respond g code) = Move.Respond (group_job first e p g) (p.pasid (p.filed_under g)) code
own_move first e ms p (LocalAct.Discard g) = Move.Discard
own_move first e ms p (LocalAct.Ask b q t) = Move.Ask e (p.pasid b) q t
own_move first e ms p (LocalAct.Begin r m t) = Move.Begin e t (translation_wire ms p (p.request_binding r) (p.request_page r) m)
own_move first e ms p (LocalAct.End u) = Move.End e (p.use_slot u)
own_move first e ms p (LocalAct.Evict r) = Move.Evict e (p.pasid (p.request_binding r)) (p.request_page r)
own_move first e ms p (LocalAct.Group b i q r x l) = Move.Group e (p.pasid b) i q r x l
own_move first e ms p (LocalAct.Request g q r x l) = Move.Request e (p.pasid (p.asker g)) (p.index g) q r x l
own_move first e ms p (LocalAct.Finish names vector count) = Move.Finish e vector count
own_move first e ms p (LocalAct.Quit b) = Move.Quit e (p.pasid b)
own_move first e ms p (LocalAct.Start_arrives c b) = Move.StartArrives e (number first c) (p.pasid b)
own_move first e ms p (LocalAct.Stop_arrives c b) = Move.StopArrives e (number first c) (p.pasid b)
own_move first e ms p (LocalAct.Reset_arrives c) = Move.ResetArrives e (number first c)
own_move first e ms p (LocalAct.Keep c r m) =
    Move.Keep e (number first c) (p.request_tag r) (translation_wire ms p (p.request_binding r) (p.request_page r) m)
own_move first e ms p (LocalAct.Forget c r) = Move.Forget e (number first c) (p.request_tag r)
own_move first e ms p (LocalAct.Take c k) = Move.Take e (number first c) (p.itag k) (p.pasid (binding_of (p.order k))) (extent_of (p.order k))
own_move first e ms p (LocalAct.Answered c g code) = Move.Answered e (number first c) (p.index g) code
own_move first e ms p (LocalAct.Complete c r found answer) = Move.Complete e (number first c) answer
own_move first e ms p (LocalAct.Count c names) = count_move first e c (p.carried c)
own_move first e ms p (LocalAct.Arrive c r) = Move.Arrive e (number first c) (page_request_wire p r)
own_move first e ms p (LocalAct.Miss c r) = Move.Ignore (number first c)
own_move first e ms p (LocalAct.Mark c b) = Move.Mark e (number first c) (number first b)
own_move first e ms p (LocalAct.Ignore c) = Move.Ignore (number first c)
own_move first e ms p (LocalAct.Reopen c) = Move.Reopen e (number first c)

abbrev pub act_move : World → Act → Move
act_move w Act.NewSpace = Move.NewSpace
act_move w (Act.DropSpace s) = Move.DropSpace (number w.config.first s)
act_move w (Act.Map s q f x) = Move.Map (number w.config.first s) q f x
act_move w (Act.Unmap s q count order) = Move.Unmap (number w.config.first s) q count order
act_move w (Act.NewBinding e) = Move.NewBinding
act_move w (Act.NewJob e g) = Move.NewJob (group_job w.config.first e (w.part e) g)
act_move w (Act.Hold x j) = Move.Hold x (job_wire w j)
act_move w (Act.LetGo x) = Move.LetGo x
act_move w (Act.AtEndpoint e o) = own_move w.config.first e w.mappings (w.part e) o

-- the moves of acts, each where it is done
abbrev pub act_moves : World → List Act → List Move
act_moves w [] = []
act_moves w (a ∷ acts) = act_move w a ∷ act_moves (act w a) acts
