-- A space that is bound is two acts of the open world: the entry of its PASID is set, and the endpoint is told to start it.
use Rattle.std.proofs.Common.{◌≡◌, ◌≢◌, ◌⊎◌, inl, inr, refl, ap, ap₂, sym, subst, ◌∙◌, ℕ, suc, ◌+◌, ◌<◌, ◌≤◌, Bool, true, false, arith}
use Rattle.std.specs.Prelude.{◌==◌, ◌&&◌, not, nat_lt, if◌then◌else◌, List, [], ◌∷◌, ◌++◌, Option, Some, None, option_map, option_and_then}
use Rattle.std.specs.Prelude.{slice_get, slice_set}
use Rattle.std.proofs.lemmas.Bool.{eqb-true, eq-eqb}
use Rattle.std.proofs.lemmas.Bool.Decides.{nat_tests}
use Rattle.sva_model.specs.Words.{count_below, find, if_found, lowest, put, step_lowest, tabulate}
use Rattle.sva_model.specs.State.{Owed, PasidState, Endpoint, World}
use Rattle.sva_model.specs.State.PasidState.{Off, On, Ending}
use Rattle.sva_model.specs.State.Phase.{Open}
use Rattle.sva_model.specs.State.Stage.{Unbound, Live}
use Rattle.sva_model.specs.State.Subject.{StartOf}
use Rattle.sva_model.specs.States.{answered, is_live_stage, is_off, is_unreleased}
use Rattle.sva_model.specs.Acts.{LocalAct, act, act_alone}
use Rattle.sva_model.specs.Acts.Act.{AtEndpoint, NewBinding}
use Rattle.sva_labels.proofs.Lists.{lowest_same, tabulate_same, tabulate_set}
use Rattle.sva_labels.proofs.Words.{ℕ_cases, find_passes, find_some, lowest_cases, put-same, put-other}
use Rattle.sva_labels.proofs.Tests.{first_holds, second_holds}
use Rattle.sva_laws.proofs.Found.{found}
use Rattle.sva_laws.proofs.Invariant.{Invariant}
use Rattle.sva_laws.proofs.Keeps.{put_keeps}
use Rattle.sva_laws.proofs.Passed.{unreleased_bound}
use Rattle.sva_open.specs.declared.acts.Act.TheVariants as doing
use Rattle.sva_open.specs.declared.acts.LocalAct.{LocalAct as Doing}
use Rattle.sva_open.specs.declared.acts.LocalAct.TheVariants as local
use Rattle.sva_open.specs.declared.messages.Message.TheVariants as message
use Rattle.sva_open.specs.declared.messages.Sent.{Sent as Flying}
use Rattle.sva_open.specs.declared.rows.Row.{Row}
use Rattle.sva_open.specs.World.{Open as World_, Part, sent, with_row}
use Rattle.sva_open.specs.Acts.{at_endpoint, next_open, next_part, parts_after, with_parts}
use Rattle.sva_open.specs.Below.{about, shared}
use Rattle.sva_open.specs.Host as host
use Rattle.sva_open_laws.specs.AsActs.{acted}
use Rattle.sva_open_laws.specs.AsOpen.{entry_of, flying_of, gather, had_before, is_bound, is_marked, one, open_of, owner_by, owner_of}
use Rattle.sva_open_laws.specs.AsOpen.{part_of, row_at, state_of, tenure_of, time_by, user_by}
use Rattle.sva_open_laws.proofs.ActParts.{frames_same, none_sent}
use Rattle.sva_open_laws.proofs.BindParts.{arrived_old, filed_old, flight_old, group_old, had_same, held_old, owner_old, pasid_old, queued_old}
use Rattle.sva_open_laws.proofs.BindParts.{request_old, space_old, taken_old, use_old}
use Rattle.sva_open_laws.proofs.DeviceActs.{calm, never}
use Rattle.sva_open_laws.proofs.Gathered.{tabulate_get}
use Rattle.sva_open_laws.proofs.GatherLists.{gather_one_more, gather_same}
use Rattle.sva_open_laws.proofs.Safety.{live_is, marked_is, started_is}
use Rattle.sva_open_laws.proofs.Usable.{bound_low}

-- ---- Searches with one number more

pub find_more : (n : ℕ) (q : ℕ → Bool) → q n ≡ false → find (suc n) q ≡ find n q
unfolding lowest
find_more n q h =
    ap (λ b. at (step_lowest (lowest n q == n) (lowest n q) n b) (suc n)) h ∙ by (lowest n q) (low (lowest_cases n q)) (lowest n q == n) refl
  where
    at : ℕ → ℕ → Option ℕ
    at k m = if_found (nat_lt k m) k

    low : ((lowest n q ≡ n) × ((j : ℕ) → j < n → q j ≡ false))
        ⊎ ((lowest n q < n) × (q (lowest n q) ≡ true) × ((j : ℕ) → j < lowest n q → q j ≡ false)) → lowest n q ≤ n
    low (inl x) = let is = x.0 in omega arith
    low (inr x) = let is = x.0 in omega arith

    by : (k : ℕ) → k ≤ n → (b : Bool) → (k == n) ≡ b → at (step_lowest b k n false) (suc n) ≡ at k n
    by k l true h =
        let past : nat_lt (suc n) (suc n) ≡ false = grind (arith, nat_tests) in
        let end : nat_lt k n ≡ false = grind (arith, nat_tests, h) in
        ap (λ b. if_found b (suc n)) past ∙ sym (ap (λ b. if_found b k) end)
    by k l false h =
        let within : nat_lt k (suc n) ≡ true = grind (arith, nat_tests, l) in
        let before : nat_lt k n ≡ true = grind (arith, nat_tests, l, h) in
        ap (λ b. if_found b k) (within ∙ sym before)

pub find_same : (n : ℕ) (q r : ℕ → Bool) → ((k : ℕ) → k < n → q k ≡ r k) → find n q ≡ find n r
find_same n q r h = ap (λ l. if_found (nat_lt l n) l) (lowest_same n q r h)

pub find_none : (n : ℕ) (q : ℕ → Bool) → ((k : ℕ) → k < n → q k ≡ false) → find n q ≡ None
find_none n q h = go (find n q) refl
  where
    go : (o : Option ℕ) → find n q ≡ o → o ≡ None
    go None is = refl
    go (Some k) is = let x = find_passes n q k is in absurd (cc (sym x.1 ∙ h k x.0))

pub find_last : (n : ℕ) (q : ℕ → Bool) → ((k : ℕ) → k < n → q k ≡ false) → q n ≡ true → find (suc n) q ≡ Some n
find_last n q none h = at ∙ ap Some (is (ℕ_cases (lowest (suc n) q) n))
  where
    at : find (suc n) q ≡ Some (lowest (suc n) q)
    at = find_some (suc n) q n (omega arith) h

    is : (lowest (suc n) q ≡ n) ⊎ (lowest (suc n) q ≢ n) → lowest (suc n) q ≡ n
    is (inl e) = e
    is (inr ne) =
        let x = find_passes (suc n) q (lowest (suc n) q) at in
        absurd (cc (sym x.1 ∙ none (lowest (suc n) q) (omega (arith, x.0, ne))))

count_same_end : (n : ℕ) (q : ℕ → Bool) → q n ≡ false → count_below (suc n) q ≡ count_below n q
unfolding count_below
count_same_end n q h = ap (λ (b : Bool). if b then suc (count_below n q) else count_below n q) h

-- ---- Acts, by tables of parts

-- where no units are shared
alone : (now : World_) (e : ℕ) (its : Doing) → now.units ≡ [] → next_open now (doing.At e its) ≡ at_endpoint now e its
alone now e its none =
    ap (λ us. shared us (about us e its (slice_get now.parts e)) its now.parts (at_endpoint now (about us e its (slice_get now.parts e)) its)) none

at_table : (now : World_) (n : ℕ) (parts : ℕ → Part) (e : ℕ) (its : Doing) (v : Part) → e < n → now.units ≡ [] → now.parts ≡ tabulate n parts
    → next_part now.settings now.mappings (parts e) its ≡ Some v
    → next_open now (doing.At e its) ≡ Some (record now { parts = tabulate n (put parts e v) })
at_table now n parts e its v low none are leads =
    alone now e its none
    ∙ ap (λ ps. option_map (with_parts now) (parts_after now.settings now.mappings ps e its (slice_get ps e))) are
    ∙ ap (λ p. option_map (with_parts now) (parts_after now.settings now.mappings (tabulate n parts) e its p)) (tabulate_get n parts e low)
    ∙ ap (λ p. option_map (with_parts now) (option_map (slice_set (tabulate n parts) e) p)) leads
    ∙ ap (λ ps. Some (record now { parts = ps }))
    (sym (tabulate_set n parts (put parts e v) e v (put-same parts e v) (λ k ne. put-other parts e v k ne)))

-- ---- Rows

-- a row, by who it shows
abbrev row_of : Endpoint → (owner : ℕ) → (entered bearer marked user : Option ℕ) → Row
row_of p n a b c d =
    record {
      entry = option_map (entry_of p) a;
      owner = n;
      space = option_map p.space b;
      answer = option_map (owner_of p) c;
      state = state_of p d;
      user = user_by p d;
    }

abbrev live_under : Endpoint → ℕ → ℕ → Bool
live_under p t b = is_live_stage (p.stage b) && (p.pasid b == t)

abbrev marked_under : Endpoint → ℕ → ℕ → Bool
marked_under p t b = is_marked (p.stage b) && (p.pasid b == t)

abbrev used_under : Endpoint → ℕ → ℕ → Bool
used_under p t b = not (is_off (p.pasid_state b)) && (p.pasid b == t)

abbrev had_under : Endpoint → ℕ → ℕ → Bool
had_under p t b = is_bound (p.stage b) && (p.pasid b == t)

and_false : (b : Bool) → (b && false) ≡ false
and_false true = refl
and_false false = refl

off_is : (x : PasidState) → (x ≢ Off → ⊥) → x ≡ Off
off_is Off h = refl
off_is On h = absurd (h (λ e. absurd (cc)))
off_is Ending h = absurd (h (λ e. absurd (cc)))

module _ (w : World) (i : Invariant w) where
  -- a binding that isn't made is nobody's at any endpoint
  unmade : (k : ℕ) → (w.part k).stage w.bindings ≡ Unbound
  unmade k = (i.parts k).bounds.stage w.bindings (omega arith)

  unmade_off : (k : ℕ) → (w.part k).pasid_state w.bindings ≡ Off
  unmade_off k =
      off_is ((w.part k).pasid_state w.bindings)
      (λ h. unreleased_bound (w.part k) w.bindings ((found w k i).started w.bindings h).unreleased (unmade k))

  -- so the rows of other endpoints are as they were
  row_elsewhere : (k t : ℕ) → row_at (suc w.bindings) (w.part k) t ≡ row_at w.bindings (w.part k) t
  row_elsewhere k t =
      ap₂ (λ a n. row_of p n a (p.at_pasid t) (find (suc g) (marked_under p t)) (find (suc g) (used_under p t)))
      (find_more g (live_under p t) (ap (λ x. is_live_stage x && (p.pasid g == t)) (unmade k))) (owner (p.at_pasid t))
      ∙ ap₂ (λ c d. row_of p (owner_by g p t (p.at_pasid t)) (find g (live_under p t)) (p.at_pasid t) c d)
      (find_more g (marked_under p t) (ap (λ x. is_marked x && (p.pasid g == t)) (unmade k)))
      (find_more g (used_under p t) (ap (λ x. not (is_off x) && (p.pasid g == t)) (unmade_off k)))
    where
      p : Endpoint
      p = w.part k

      g : ℕ
      g = w.bindings

      owner : (o : Option ℕ) → owner_by (suc g) p t o ≡ owner_by g p t o
      owner None = count_same_end g (had_under p t) (ap (λ x. is_bound x && (p.pasid g == t)) (unmade k))
      owner (Some b) = refl

  module _ (e s t : ℕ) (free : (w.part e).at_pasid t ≡ None) where
    abbrev p : Endpoint
    p = w.part e

    abbrev g : ℕ
    g = w.bindings

    abbrev bound : Endpoint
    bound = act_alone (w.part e) w.messages (LocalAct.Bind w.bindings s t)

    new_pasid : bound.pasid g ≡ t
    new_pasid = put-same p.pasid g t

    -- the PASID had no bearer
    not_borne : (b : ℕ) → is_unreleased (p.stage b) ≡ true → p.pasid b ≡ t → ⊥
    not_borne b u same = absurd (cc (sym (ap p.at_pasid (sym same) ∙ (i.parts e).labels.bears_pasid b u) ∙ free))

    live_none : (b : ℕ) → b < g → live_under p t b ≡ false
    live_none b l =
        never (live_under p t b)
        (λ h. not_borne b (live_is (p.stage b) (first_holds (is_live_stage (p.stage b)) (p.pasid b == t) h))
        (eqb-true (p.pasid b) t (second_holds (is_live_stage (p.stage b)) (p.pasid b == t) h)))

    marked_none : (b : ℕ) → b < g → marked_under p t b ≡ false
    marked_none b l =
        never (marked_under p t b)
        (λ h. not_borne b (marked_is (p.stage b) (first_holds (is_marked (p.stage b)) (p.pasid b == t) h))
        (eqb-true (p.pasid b) t (second_holds (is_marked (p.stage b)) (p.pasid b == t) h)))

    used_none : (b : ℕ) → b < g → used_under p t b ≡ false
    used_none b l =
        never (used_under p t b)
        (λ h. not_borne b
        ((found w e i).started b (started_is (p.pasid_state b) (first_holds (not (is_off (p.pasid_state b))) (p.pasid b == t) h))).unreleased
        (eqb-true (p.pasid b) t (second_holds (not (is_off (p.pasid_state b))) (p.pasid b == t) h)))

    stage_old : (b : ℕ) → b < g → bound.stage b ≡ p.stage b
    stage_old b l = put-other p.stage g Live b (λ same. absurd (omega (arith, same, l)))

    live_old : (x b : ℕ) → b < g → live_under bound x b ≡ live_under p x b
    live_old x b l = ap₂ (λ y z. is_live_stage y && (z == x)) (stage_old b l) (pasid_old w e s t i b l)

    marked_old : (x b : ℕ) → b < g → marked_under bound x b ≡ marked_under p x b
    marked_old x b l = ap₂ (λ y z. is_marked y && (z == x)) (stage_old b l) (pasid_old w e s t i b l)

    used_old : (x b : ℕ) → b < g → used_under bound x b ≡ used_under p x b
    used_old x b l = ap (λ z. not (is_off (p.pasid_state b)) && (z == x)) (pasid_old w e s t i b l)

    -- the row of the PASID before, and as it is entered
    before_row : row_at g p t ≡ row_of p (had_before p t g) None None None None
    before_row =
        ap₂ (λ b n. row_of p n (find g (live_under p t)) b (find g (marked_under p t)) (find g (used_under p t))) free (ap (owner_by g p t) free)
        ∙ ap (λ a. row_of p (had_before p t g) a None (find g (marked_under p t)) (find g (used_under p t))) (find_none g (live_under p t) live_none)
        ∙ ap₂ (λ c d. row_of p (had_before p t g) None None c d) (find_none g (marked_under p t) marked_none)
        (find_none g (used_under p t) used_none)

    abbrev entered_row : Row
    entered_row =
        record (row_of (w.part e) (had_before (w.part e) t w.bindings) None None None None) {
          entry = Some (record { space = s; owner = had_before (w.part e) t w.bindings });
          space = Some s;
        }

    its_row : row_at (suc g) bound t ≡ entered_row
    its_row =
        ap₂ (λ b n. row_of bound n (find (suc g) (live_under bound t)) b (find (suc g) (marked_under bound t)) (find (suc g) (used_under bound t)))
        (put-same p.at_pasid t (Some g)) (ap (owner_by (suc g) bound t) (put-same p.at_pasid t (Some g)) ∙ its_owner)
        ∙ ap (λ a. row_of bound n a (Some g) (find (suc g) (marked_under bound t)) (find (suc g) (used_under bound t)))
        (find_last g (live_under bound t) (λ b l. live_old t b l ∙ live_none b l)
        (ap₂ (λ y z. is_live_stage y && (z == t)) (put-same p.stage g Live) new_pasid ∙ eq-eqb t t refl))
        ∙ ap₂ (λ c d. row_of bound n (Some g) (Some g) c d)
        (find_more g (marked_under bound t) (ap (λ y. is_marked y && (bound.pasid g == t)) (put-same p.stage g Live))
        ∙ find_none g (marked_under bound t) (λ b l. marked_old t b l ∙ marked_none b l))
        (find_more g (used_under bound t) (ap (λ x. not (is_off x) && (bound.pasid g == t)) (unmade_off e))
        ∙ find_none g (used_under bound t) (λ b l. used_old t b l ∙ used_none b l))
        ∙ ap₂ (λ x o. record (row_of bound n (Some g) (Some g) None None) { entry = Some (record { space = x; owner = o }); space = Some x })
        (put-same p.space g s) its_owner
      where
        n : ℕ
        n = had_before (w.part e) t w.bindings

        its_owner : owner_of bound g ≡ had_before (w.part e) t w.bindings
        its_owner = ap (λ z. had_before bound z g) new_pasid ∙ had_same w e s t i t g (omega arith)

    -- ---- The other rows

    low_bearer : (x b : ℕ) → p.at_pasid x ≡ Some b → b < g
    low_bearer x b h = bound_low w e b i (unreleased_bound p b ((i.parts e).labels.pasid_bears x b h).1)

    not_its : (x : ℕ) → x ≢ t → (b : Bool) → (b && (bound.pasid g == x)) ≡ false
    not_its x ne b =
        ap (λ z. b && z) (never (bound.pasid g == x) (λ h. ne (sym (eqb-true (bound.pasid g) x h) ∙ new_pasid))) ∙ and_false b

    owner_other : (x : ℕ) → x ≢ t → owner_by (suc g) bound x (bound.at_pasid x) ≡ owner_by g p x (p.at_pasid x)
    owner_other x ne = ap (owner_by (suc g) bound x) (put-other p.at_pasid t (Some g) x ne) ∙ go (p.at_pasid x) refl
      where
        go : (o : Option ℕ) → p.at_pasid x ≡ o → owner_by (suc g) bound x o ≡ owner_by g p x o
        go None h = count_same_end g (had_under bound x) (not_its x ne (is_bound (bound.stage g))) ∙ had_same w e s t i x g (omega arith)
        go (Some b) h = owner_old w e s t i b (low_bearer x b h)

    IsLow : Option ℕ → Type 0
    IsLow o = (b : ℕ) → o ≡ Some b → b < g

    shown_old : (n : ℕ) (a b c d : Option ℕ) → IsLow a → IsLow b → IsLow c → IsLow d → row_of bound n a b c d ≡ row_of p n a b c d
    unfolding IsLow
    shown_old n a b c d la lb lc ld =
        ap₂ (λ x y. record (row_of bound n a b c d) { entry = x; space = y }) (entries a la) (spaces b lb)
        ∙ ap₂ (λ x y. record (row_of p n a b c d) { answer = x; state = state_of bound d; user = y }) (answers c lc) (users d ld)
        ∙ ap (λ x. record (row_of p n a b c d) { state = x }) (states d)
      where
        entries : (o : Option ℕ) → ((b : ℕ) → o ≡ Some b → b < g) → option_map (entry_of bound) o ≡ option_map (entry_of p) o
        entries None l = refl
        entries (Some b) l =
            ap₂ (λ x m. Some (record (entry_of p b) { space = x; owner = m })) (space_old w e s t i b (l b refl)) (owner_old w e s t i b (l b refl))

        spaces : (o : Option ℕ) → ((b : ℕ) → o ≡ Some b → b < g) → option_map bound.space o ≡ option_map p.space o
        spaces None l = refl
        spaces (Some b) l = ap Some (space_old w e s t i b (l b refl))

        answers : (o : Option ℕ) → ((b : ℕ) → o ≡ Some b → b < g) → option_map (owner_of bound) o ≡ option_map (owner_of p) o
        answers None l = refl
        answers (Some b) l = ap Some (owner_old w e s t i b (l b refl))

        users : (o : Option ℕ) → ((b : ℕ) → o ≡ Some b → b < g) → user_by bound o ≡ user_by p o
        users None l = refl
        users (Some b) l = owner_old w e s t i b (l b refl)

        states : (o : Option ℕ) → state_of bound o ≡ state_of p o
        states None = refl
        states (Some b) = refl

    row_other : (x : ℕ) → x ≢ t → row_at (suc g) bound x ≡ row_at g p x
    unfolding IsLow
    row_other x ne =
        ap₂ (λ a n. row_of bound n a (bound.at_pasid x) (find (suc g) (marked_under bound x)) (find (suc g) (used_under bound x)))
        (find_more g (live_under bound x) (not_its x ne (is_live_stage (bound.stage g)))
        ∙ find_same g (live_under bound x) (live_under p x) (live_old x))
        (owner_other x ne)
        ∙ ap₂ (λ c d. row_of bound (owner_by g p x (p.at_pasid x)) (find g (live_under p x)) (bound.at_pasid x) c d)
        (find_more g (marked_under bound x) (not_its x ne (is_marked (bound.stage g)))
        ∙ find_same g (marked_under bound x) (marked_under p x) (marked_old x))
        (find_more g (used_under bound x) (not_its x ne (not (is_off (bound.pasid_state g))))
        ∙ find_same g (used_under bound x) (used_under p x) (used_old x))
        ∙ ap (λ b. row_of bound (owner_by g p x (p.at_pasid x)) (find g (live_under p x)) b (find g (marked_under p x)) (find g (used_under p x)))
        (put-other p.at_pasid t (Some g) x ne)
        ∙ shown_old (owner_by g p x (p.at_pasid x)) (find g (live_under p x)) (p.at_pasid x) (find g (marked_under p x)) (find g (used_under p x))
        (λ b h. (find_passes g (live_under p x) b h).0) (low_bearer x) (λ b h. (find_passes g (marked_under p x) b h).0)
        (λ b h. (find_passes g (used_under p x) b h).0)

    -- ---- The parts

    abbrev rows : List Row
    rows = tabulate 33 (put (row_at w.bindings (w.part e)) t entered_row)

    abbrev start : List Flying
    start = one (had_before (w.part e) t w.bindings) (w.part e).resets (message.Start t)

    abbrev after : World
    after = act (act w (NewBinding e)) (AtEndpoint e (LocalAct.Bind w.bindings s t))

    rows_same : tabulate 33 (row_at (suc g) bound) ≡ rows
    rows_same = tabulate_same 33 (row_at (suc g) bound) (put (row_at g p) t entered_row) (λ x l. go x (ℕ_cases x t))
      where
        go : (x : ℕ) → (x ≡ t) ⊎ (x ≢ t) → row_at (suc g) bound x ≡ put (row_at g p) t entered_row x
        go x (inl same) =
            subst (λ z. row_at (suc g) bound z ≡ put (row_at g p) t entered_row z) (sym same)
            (its_row ∙ sym (put-same (row_at g p) t entered_row))
        go x (inr ne) = row_other x ne ∙ sym (put-other (row_at g p) t entered_row x ne)

    flight_same : gather (w.messages + 1) (λ c. flying_of w.mappings bound (bound.message c)) ≡ (part_of w e p).flight ++ start
    flight_same =
        gather_one_more w.messages (λ c. flying_of w.mappings bound (bound.message c))
        ∙ ap₂ (λ xs ys. xs ++ ys)
        (gather_same w.messages (λ c. flying_of w.mappings bound (bound.message c)) (λ c. flying_of w.mappings p (p.message c))
        (λ c l. ap (flying_of w.mappings bound) (put-other p.message w.messages (Some (StartOf g)) c (λ same. absurd (omega (arith, same, l))))
        ∙ flight_old w e s t i c))
        (ap (flying_of w.mappings bound) (put-same p.message w.messages (Some (StartOf g)))
        ∙ ap₂ (λ o x. one o p.resets (message.Start x)) (ap (λ z. had_before bound z g) new_pasid ∙ had_same w e s t i t g (omega arith)) new_pasid)

    part_same : part_of after e bound ≡ record (part_of w e p) { rows = rows; flight = (part_of w e p).flight ++ start }
    part_same =
        ap₂ (λ rs fs. record (part_of after e bound) { rows = rs; flight = fs }) rows_same flight_same
        ∙ ap₂ (λ xs ys. record (part_of after e bound) { rows = rows; flight = (part_of w e p).flight ++ start; requests = xs; groups = ys })
        (tabulate_same 32 _ _ (λ x l. request_old w e s t i x)) (tabulate_same 32 _ _ (λ x l. group_old w e s t i x))
        ∙ ap₂ (λ xs ys. record (part_of after e bound) {
          rows = rows;
          flight = (part_of w e p).flight ++ start;
          requests = (part_of w e p).requests;
          groups = (part_of w e p).groups;
          held = xs;
          queue = ys;
        })
        (gather_same p.requests _ _ (λ r l. held_old w e s t i r l)) (gather_same p.orders _ _ (λ k l. queued_old w e s t i k))
        ∙ ap₂ (λ xs ys. record (part_of w e p) {
          rows = rows;
          flight = (part_of w e p).flight ++ start;
          works = xs ++ ys;
          arrived = (part_of after e bound).arrived;
          filed = (part_of after e bound).filed;
        })
        (gather_same p.uses _ _ (λ u l. use_old w e s t i u)) (gather_same p.orders _ _ (λ k l. taken_old w e s t i k))
        ∙ ap₂ (λ xs ys. record (part_of w e p) { rows = rows; flight = (part_of w e p).flight ++ start; arrived = xs; filed = ys })
        (gather_same p.arrivals _ _ (λ k l. arrived_old w e s t i k)) (gather_same p.groups _ _ (λ x l. filed_old w e s t i x))

    other_same : (k : ℕ) → part_of after k (w.part k) ≡ part_of w k (w.part k)
    other_same k =
        ap₂ (λ rs fs. record (part_of w k (w.part k)) { rows = rs; flight = fs })
        (tabulate_same 33 (row_at (suc g) (w.part k)) (row_at g (w.part k)) (λ x l. row_elsewhere k x))
        (none_sent w (w.part k) 1 (λ c l. (i.parts k).resets.unsent c l))

    frames_same_too : tabulate w.config.frames (tenure_of after) ≡ tabulate w.config.frames (tenure_of w)
    frames_same_too =
        frames_same w after
        (put_keeps (λ k q. (x : Owed) → answered q x ≡ answered (w.part k) x) w.part e bound
        (calm p w.messages (LocalAct.Bind g s t) refl refl) (λ k x. refl))

    -- ---- The acts

    abbrev parts_before : ℕ → Part
    parts_before k = part_of w k (w.part k)

    abbrev with_entry : Part
    with_entry = record (part_of w e (w.part e)) { rows = rows }

    abbrev with_start : Part
    with_start = record (part_of w e (w.part e)) { rows = rows; flight = (part_of w e (w.part e)).flight ++ start }

    abbrev between : World_
    between = record (open_of w) { parts = tabulate w.config.endpoints (put parts_before e with_entry) }

    enters : e < w.config.endpoints → t < 33 → next_open (open_of w) (doing.At e (local.SetEntry t s)) ≡ Some between
    enters low pasid_low =
        at_table (open_of w) w.config.endpoints parts_before e (local.SetEntry t s) with_entry low refl refl
        (ap (host.set_entry (part_of w e p) t s) (tabulate_get 33 (row_at g p) t pasid_low)
        ∙ ap (λ r. Some (with_row (part_of w e p) t (host.entered r s))) before_row
        ∙ ap (λ rs. Some (record (part_of w e p) { rows = rs }))
        (sym (tabulate_set 33 (row_at g p) (put (row_at g p) t entered_row) t entered_row (put-same (row_at g p) t entered_row)
        (λ k ne. put-other (row_at g p) t entered_row k ne))))

    starts : e < w.config.endpoints → t < 33 → p.phase ≡ Open
        → next_open between (doing.At e (local.Start t))
        ≡ Some (open_of after)
    starts low pasid_low phase =
        at_table between w.config.endpoints (put parts_before e with_entry) e (local.Start t) with_start low refl refl
        (ap (λ q. host.start q t (slice_get q.rows t)) (put-same parts_before e with_entry)
        ∙ ap (host.start with_entry t) (tabulate_get 33 (put (row_at g p) t entered_row) t pasid_low ∙ ap Some (put-same (row_at g p) t entered_row))
        ∙ ap (λ x. Some (sent with_entry (had_before p t g) (time_by x p.resets) (message.Start t))) phase)
        ∙ ap Some (sym (ap₂ (λ fs ps. record (open_of w) { frames = fs; parts = ps }) frames_same_too
        (tabulate_same w.config.endpoints (λ k. part_of after k (after.part k)) (put (put parts_before e with_entry) e with_start)
        (λ k l. each k (ℕ_cases k e)))))
      where
        each : (k : ℕ) → (k ≡ e) ⊎ (k ≢ e) → part_of after k (after.part k) ≡ put (put parts_before e with_entry) e with_start k
        each k (inl same) =
            subst (λ z. part_of after z (after.part z) ≡ put (put parts_before e with_entry) e with_start z) (sym same)
            (ap (part_of after e) (put-same w.part e bound) ∙ part_same ∙ sym (put-same (put parts_before e with_entry) e with_start))
        each k (inr ne) =
            ap (part_of after k) (put-other w.part e bound k ne) ∙ other_same k
            ∙ sym (put-other (put parts_before e with_entry) e with_start k ne ∙ put-other parts_before e with_entry k ne)

    pub binds_open : e < w.config.endpoints → t < 33 → (w.part e).phase ≡ Open
        → acted (doing.At e (local.SetEntry t s) ∷ doing.At e (local.Start t) ∷ []) (open_of w)
        ≡ Some (open_of (act (act w (NewBinding e)) (AtEndpoint e (LocalAct.Bind w.bindings s t))))
    unfolding acted
    binds_open low pasid_low phase =
        ap (option_and_then (acted (doing.At e (local.Start t) ∷ []))) (enters low pasid_low)
        ∙ ap (option_and_then (λ now. Some now)) (starts low pasid_low phase)
