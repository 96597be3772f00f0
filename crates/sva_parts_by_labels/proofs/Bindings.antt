-- The table of bindings, seen.
use Rattle.std.proofs.Common.{◌≡◌, refl, ap, sym, ◌∙◌, ℕ, zero, suc, ◌+◌, Bool, true, false, arith}
use Rattle.std.proofs.Math.Path.{fun_ext}
use Rattle.std.specs.Prelude.{cond, nat_lt, ◌==◌, ◌&&◌, ◌||◌, not, if◌then◌else◌, Option, Some, None, option_map, List, [], ◌∷◌, map, filter, find}
use Rattle.std.specs.List.{count_by, list_any, range_with_len}
use Rattle.std.specs.Option.{option_or}
use Rattle.std.proofs.lemmas.List.{map-append}
use Rattle.std.proofs.lemmas.Bool.Decides.{nat_tests}
use Rattle.sva_labels.proofs.Tests.{one_shifted}
use Rattle.sva_model.specs.Words as words
use Rattle.sva_model.specs.Words.{lowest, step_lowest, if_found}
use Rattle.sva_model.specs.Wire.{Wire, BindingWire}
use Rattle.sva_labels.specs.Finding as finding
use Rattle.sva_labels.specs.Moves as moves
use Rattle.sva_pasid.specs.declared.places.TableEntry.{TableEntry}
use Rattle.sva_pasid.specs.declared.bearers.Bearer.{Bearer}
use Rattle.sva_pasid.specs.declared.stages.Stage.{Stage}
use Rattle.sva_pasid.specs.declared.stages.Stage.TheVariants.{Live, Stopping, Draining, Invalidating, Quiet, Lost}
use Rattle.sva_pasid.specs.Stages.{reset_of}
use Rattle.sva_pasid.specs.Places as places
use Rattle.sva_parts_by_labels.proofs.Tables.{count_first}
use Rattle.sva_parts_by_labels.specs.Bindings.{stage_seen, stage_or_quiet, binding_seen, bindings_seen, AreLookedUp, AreChanged, BindingsAreSeen}

-- A search, a test and a count among things that are seen.

pub seen_found : {A B : Type 0} (see : A → B) (p : A → Bool) (q : B → Bool) → ((a : A) → q (see a) ≡ p a) → (xs : List A)
    → find q (map see xs) ≡ option_map see (find p xs)
seen_found see p q h [] = refl
seen_found see p q h (x ∷ xs) = go (q (see x)) (p x) (h x) (seen_found see p q h xs)
  where
    go : (b c : Bool) → b ≡ c → find q (map see xs) ≡ option_map see (find p xs) → cond b (Some (see x)) (find q (map see xs))
        ≡ option_map see (cond c (Some x) (find p xs))
    go true true k rest = refl
    go false false k rest = rest
    go true false k rest = absurd (cc (k))
    go false true k rest = absurd (cc (k))

pub seen_some : {A B : Type 0} (see : A → B) (p : A → Bool) (q : B → Bool) → ((a : A) → q (see a) ≡ p a) → (xs : List A)
    → list_any q (map see xs) ≡ list_any p xs
seen_some see p q h [] = refl
seen_some see p q h (x ∷ xs) = λ i. h x i || seen_some see p q h xs i

pub seen_counted : {A B : Type 0} (see : A → B) (p : A → Bool) (q : B → Bool) → ((a : A) → q (see a) ≡ p a) → (xs : List A)
    → count_by q (map see xs) ≡ count_by p xs
seen_counted see p q h [] = refl
seen_counted see p q h (x ∷ xs) =
    count_first q (see x) (map see xs) ∙ (λ i. (if h x i then 1 else 0) + seen_counted see p q h xs i) ∙ sym (count_first p x xs)

pub seen_left : {A B : Type 0} (see : A → B) (p : A → Bool) (q : B → Bool) → ((a : A) → q (see a) ≡ p a) → (xs : List A)
    → map see (filter p xs) ≡ filter q (map see xs)
seen_left see p q h [] = refl
seen_left see p q h (x ∷ xs) = go (q (see x)) (p x) (h x) (seen_left see p q h xs)
  where
    go : (b c : Bool) → b ≡ c → map see (filter p xs) ≡ filter q (map see xs) → map see (cond c (x ∷ filter p xs) (filter p xs))
        ≡ cond b (see x ∷ filter q (map see xs)) (filter q (map see xs))
    go true true k rest = ap (λ l. see x ∷ l) rest
    go false false k rest = rest
    go true false k rest = absurd (cc (k))
    go false true k rest = absurd (cc (k))

-- The lowest number that passes, of a row of numbers and of a table.

abbrev front : Bool → ℕ → ℕ
front true k = 0
front false k = suc k

lowest_front : (n : ℕ) (p : ℕ → Bool) → lowest (suc n) p ≡ front (p 0) (lowest n (λ k. p (suc k)))
unfolding lowest
lowest_front zero p = go (p 0)
  where
    go : (b : Bool) → step_lowest (0 == 0) 0 0 b ≡ front b 0
    go true = refl
    go false = refl
lowest_front (suc n) p = ap (λ l. step_lowest (l == suc n) l (suc n) (p (suc n))) (lowest_front n p) ∙ go (p 0) (lowest n (λ k. p (suc k)))
  where
    next : (l : ℕ) (b : Bool) → step_lowest (suc l == suc n) (suc l) (suc n) b ≡ suc (step_lowest (l == n) l n b)
    next l b = same (l == n) (suc l == suc n) (grind (arith, nat_tests)) b
      where
        same : (s t : Bool) → t ≡ s → (b : Bool) → step_lowest t (suc l) (suc n) b ≡ suc (step_lowest s l n b)
        same true true k true = refl
        same true true k false = refl
        same false false k b = refl
        same true false k b = absurd (cc (k))
        same false true k b = absurd (cc (k))

    go : (b : Bool) (l : ℕ) → step_lowest (front b l == suc n) (front b l) (suc n) (p (suc n)) ≡ front b (step_lowest (l == n) l n (p (suc n)))
    go true l = zero_is (0 == suc n) (grind (arith, nat_tests))
      where
        zero_is : (t : Bool) → t ≡ false → step_lowest t 0 (suc n) (p (suc n)) ≡ 0
        zero_is false k = refl
        zero_is true k = absurd (cc (k))
    go false l = next l (p (suc n))

-- the first of a row of numbers is the lowest of a table, shifted
abbrev shifted : (first : ℕ) → Option ℕ → Option ℕ
shifted first None = None
shifted first (Some k) = Some (first + k)

found_front : (n : ℕ) (p : ℕ → Bool) → words.find (suc n) p ≡ (if p 0 then Some 0 else shifted 1 (words.find n (λ k. p (suc k))))
found_front n p = ap (λ l. if_found (nat_lt l (suc n)) l) (lowest_front n p) ∙ go (p 0) (lowest n (λ k. p (suc k)))
  where
    next : (l : ℕ) (s t : Bool) → t ≡ s → if_found t (suc l) ≡ shifted 1 (if_found s l)
    next l true true k = ap Some (one l)
      where
        one : (l : ℕ) → suc l ≡ 1 + l
        one l = omega arith
    next l false false k = refl
    next l true false k = absurd (cc (k))
    next l false true k = absurd (cc (k))

    go : (b : Bool) (l : ℕ) → if_found (nat_lt (front b l) (suc n)) (front b l) ≡ (if b then Some 0 else shifted 1 (if_found (nat_lt l n) l))
    go true l = zero_is (nat_lt 0 (suc n)) (grind (arith, nat_tests))
      where
        zero_is : (t : Bool) → t ≡ true → if_found t 0 ≡ Some 0
        zero_is true k = refl
        zero_is false k = absurd (cc (k))
    go false l = next l (nat_lt l n) (nat_lt (suc l) (suc n)) (grind (arith, nat_tests))

shift_more : (first : ℕ) (o : Option ℕ) → shifted (first + 1) o ≡ shifted first (shifted 1 o)
shift_more first None = refl
shift_more first (Some k) = ap Some (sums first k)
  where
    sums : (a k : ℕ) → a + 1 + k ≡ a + (1 + k)
    sums a k = omega arith

found_same : (n : ℕ) (p q : ℕ → Bool) → ((k : ℕ) → p k ≡ q k) → words.find n p ≡ words.find n q
found_same n p q h = ap (words.find n) (fun_ext h)

row_found : (n first : ℕ) (p : ℕ → Bool) → find p (range_with_len first n) ≡ shifted first (words.find n (λ k. p (first + k)))
unfolding lowest
row_found zero first p = refl
row_found (suc n) first p =
    let zero_more : first + 0 ≡ first = omega arith in
    ap (λ r. if p first then Some first else r) (row_found n (first + 1) p ∙ shift_more first (words.find n (λ k. p (first + 1 + k))))
    ∙ ap (λ f. if p first then Some first else shifted first (shifted 1 (words.find n f))) (fun_ext (λ k. ap p (one_shifted first k)))
    ∙ go (p first)
    ∙ ap (λ z. shifted first (if p z then Some 0 else shifted 1 (words.find n (λ k. p (first + suc k))))) (sym zero_more)
    ∙ ap (shifted first) (sym (found_front n (λ k. p (first + k))))
  where
    go : (b : Bool) → (if b then Some first else shifted first (shifted 1 (words.find n (λ k. p (first + suc k)))))
        ≡ shifted first (if b then Some 0 else shifted 1 (words.find n (λ k. p (first + suc k))))
    go true = ap Some (zero_is first)
      where
        zero_is : (a : ℕ) → a ≡ a + 0
        zero_is a = omega arith
    go false = refl

-- What is looked up.

at_bindings : (table : List TableEntry) (w : Wire) → w.bindings ≡ bindings_seen table → (q : BindingWire → Bool) (p : TableEntry → Bool)
    → ((a : TableEntry) → q (binding_seen a) ≡ p a) → option_map binding_seen (find p table) ≡ find q w.bindings
at_bindings table w h q p same = sym (seen_found binding_seen p q same table) ∙ ap (find q) (sym h)

borne_seen : (table : List TableEntry) (w : Wire) → w.bindings ≡ bindings_seen table → (t : ℕ) → places.is_borne t table ≡ finding.is_borne w t
borne_seen table w h t = sym (seen_some binding_seen (places.bears t) (λ b. b.pasid == t) (λ a. refl) table) ∙ ap (list_any (λ b. b.pasid == t)) (sym h)

lowest_by : (table : List TableEntry) (w : Wire) → w.bindings ≡ bindings_seen table → (o : Option TableEntry)
    → option_or (option_map (λ (place : TableEntry). place.pasid) o) (places.lowest_free table) ≡ finding.pasid_by w (option_map binding_seen o)
unfolding places.lowest_free
lowest_by table w h None =
    row_found 32 1 (λ t. not (places.is_borne t table))
    ∙ ap (λ p. shifted 1 (words.find 32 p))
    (fun_ext (λ k. ap (λ (b : Bool). not b) (borne_seen table w h (1 + k)) ∙ ap (λ t. not (finding.is_borne w t)) (one_more k)))
    ∙ as_label (words.find 32 (λ k. not (finding.is_borne w (suc k))))
  where
    one_more : (k : ℕ) → 1 + k ≡ suc k
    one_more k = omega arith

    as_label : (o : Option ℕ) → shifted 1 o ≡ option_map suc o
    as_label None = refl
    as_label (Some k) = ap Some (one_more k)
lowest_by table w h (Some place) = refl

abbrev bearer_in : (n : ℕ) → TableEntry → Bearer
bearer_in n place = record { space = place.space; bindings = n }

abbrev bearer_among : (n : ℕ) → BindingWire → Bearer
bearer_among n b = record { space = b.space; bindings = n }

bearer_by : (n m : ℕ) → n ≡ m → (o : Option TableEntry) → option_map (bearer_in n) o ≡ option_map (bearer_among m) (option_map binding_seen o)
bearer_by n m h None = refl
bearer_by n m h (Some place) = ap (λ k. Some (bearer_in k place)) h

looked_up : (table : List TableEntry) (w : Wire) → w.bindings ≡ bindings_seen table → AreLookedUp table w
looked_up table w h =
    record {
      by_number = λ n. at_bindings table w h (λ b. b.binding == n) (places.is_of n) (λ a. refl);
      by_pasid = λ e t. at_bindings table w h (λ b. b.endpoint == e && b.pasid == t) (places.is_under e t) (λ a. refl);
      by_space = λ e n. at_bindings table w h (λ b. b.endpoint == e && b.space == n) (places.joins e n) (λ a. refl);
      bound = λ n. sym (seen_some binding_seen (places.is_in n) (λ b. b.space == n) (λ a. refl) table) ∙ ap (list_any (λ b. b.space == n)) (sym h);
      lowest = λ n. lowest_by table w h (find (places.is_in n) table)
          ∙ ap (finding.pasid_by w) (at_bindings table w h (λ b. b.space == n) (places.is_in n) (λ a. refl));
      bearer = λ t.
          bearer_by (places.count_under t table) (count_by (λ b. b.pasid == t) w.bindings)
          (sym (seen_counted binding_seen (places.bears t) (λ b. b.pasid == t) (λ a. refl) table) ∙ ap (count_by (λ b. b.pasid == t)) (sym h))
          (find (places.bears t) table)
          ∙ ap (option_map (bearer_among (count_by (λ b. b.pasid == t) w.bindings))) (at_bindings table w h (λ b. b.pasid == t) (places.bears t) (λ a. refl));
    }

-- What is changed.

each_seen : (f : TableEntry → TableEntry) (g : BindingWire → BindingWire)
    → ((a : TableEntry) → binding_seen (f a) ≡ g (binding_seen a)) → (table : List TableEntry)
    → bindings_seen (map f table) ≡ map g (bindings_seen table)
each_seen f g h [] = refl
each_seen f g h (a ∷ table) = λ i. h a i ∷ each_seen f g h table i

staged_at : (stage : Stage) (a : TableEntry) (here : Bool)
    → binding_seen (if here then record a { stage = Some stage } else a)
    ≡ (if here then record (binding_seen a) { stage = stage_seen stage } else binding_seen a)
staged_at stage a true = refl
staged_at stage a false = refl

reset_stage : (o : Option Stage) → stage_or_quiet (option_map reset_of o) ≡ moves.cut_off (stage_or_quiet o)
reset_stage None = refl
reset_stage (Some (Live n)) = refl
reset_stage (Some (Stopping s)) = refl
reset_stage (Some (Draining w)) = refl
reset_stage (Some (Invalidating w)) = refl
reset_stage (Some (Quiet n)) = refl
reset_stage (Some (Lost n)) = refl

reset_at : (a : TableEntry) (here : Bool)
    → binding_seen (if here then record a { stage = option_map reset_of a.stage } else a)
    ≡ (if here then record (binding_seen a) { stage = moves.cut_off (binding_seen a).stage } else binding_seen a)
reset_at a true = ap (λ x. record (binding_seen a) { stage = x }) (reset_stage a.stage)
reset_at a false = refl

changed : (table : List TableEntry) → AreChanged table
changed table =
    record {
      begun = λ e n b t. map-append binding_seen table (places.begun e n b t ∷ []);
      staged = λ b stage.
          each_seen (λ (a : TableEntry). if places.is_of b a then record a { stage = Some stage } else a)
          (λ (x : BindingWire). if x.binding == b then record x { stage = stage_seen stage } else x) (λ a. staged_at stage a (places.is_of b a)) table;
      released = λ b. seen_left binding_seen (λ place. not (places.is_of b place)) (λ x. not (x.binding == b)) (λ a. refl) table;
      reset = λ e.
          each_seen (places.reset_at e) (λ (x : BindingWire). if x.endpoint == e then record x { stage = moves.cut_off x.stage } else x)
          (λ a. reset_at a (a.endpoint == e)) table;
    }

pub bindings_are_seen : BindingsAreSeen
bindings_are_seen table = (looked_up table, changed table)
