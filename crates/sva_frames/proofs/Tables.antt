use Rattle.std.proofs.Common.{◌↔◌, IsTrue, is_some, ◌≤◌, ◌≡◌, ◌≢◌, ℕ, ◌<◌, ◌==◌, true, false, List, Option, Some, None, [], ◌∷◌, ◌++◌, length, slice_get}
use Rattle.std.proofs.Common.{refl, sym, ap, subst, ◌∙◌, arith, zero, suc, get_or, ⊎_elim, if◌then◌else◌}
use Rattle.std.specs.List.{remove}
use Rattle.std.specs.Option.{IfNone, IfSome}
use Rattle.std.proofs.lemmas.Bool.Decides.{nat_tests}
use Rattle.std.proofs.lemmas.Bool.{cases_eq}
use Rattle.std.proofs.lemmas.Option.{same_Some, get_or_from_slice_get}
use Rattle.sva_frames.specs.declared.heads.Pending.{Pending}
use Rattle.sva_frames.specs.Chains.{first_of, AreApart}
use Rattle.sva_frames.proofs.Waiting.{if_true, if_false}

pub eq_same : (a b : ℕ) → a ≡ b → (a == b) ≡ true
eq_same a b is = grind (arith, nat_tests)

pub eq_other : (a b : ℕ) → a ≢ b → (a == b) ≡ false
eq_other a b is = grind (arith, nat_tests)

pub eq_true : (a b : ℕ) → (a == b) ≡ true → a ≡ b
eq_true a b is = grind (arith, nat_tests)

pub first_here : (e : Pending) (es : List Pending) (c : ℕ) → e.cookie ≡ c → first_of (e ∷ es) c ≡ Some e.first
first_here e es c same = if_true (e.cookie == c) (Some e.first) (first_of es c) (eq_same e.cookie c same)

pub first_later : (e : Pending) (es : List Pending) (c : ℕ) → e.cookie ≢ c → first_of (e ∷ es) c ≡ first_of es c
first_later e es c other = if_false (e.cookie == c) (Some e.first) (first_of es c) (eq_other e.cookie c other)

-- by whether the head of a table has the cookie
pub by_head :
    (P : Option ℕ → Type 0) (e : Pending) (es : List Pending) (c : ℕ) → (e.cookie ≡ c → P (Some e.first)) → (e.cookie ≢ c → P (first_of es c)) →
    P (first_of (e ∷ es) c)
by_head P e es c here later =
    ⊎_elim (λ (same : e.cookie ≡ c). subst P (sym (first_here e es c same)) (here same))
    (λ (other : e.cookie ≢ c). subst P (sym (first_later e es c other)) (later other)) (cases_eq e.cookie c)

-- no entry has the cookie
pub not_found : (es : List Pending) (c : ℕ) → ((i : ℕ) (e : Pending) → slice_get es i ≡ Some e → e.cookie ≢ c) → first_of es c ≡ None
not_found [] c none = refl
not_found (e ∷ es) c none = first_later e es c (none 0 e refl) ∙ not_found es c (λ i. none (suc i))

-- a cookie that is found is not one that isn't
apart : (es : List Pending) (a b n : ℕ) → first_of es a ≡ None → first_of es b ≡ Some n → a ≢ b
apart es a b n none some same = let both : first_of es a ≡ first_of es b = ap (first_of es) same in cc

pub first_at_place : (es : List Pending) (i : ℕ) (e : Pending) → AreApart es → slice_get es i ≡ Some e → first_of es e.cookie ≡ Some e.first
first_at_place [] i e apart_all here = absurd (cc)
first_at_place (x ∷ xs) zero e apart_all here = let same : x ≡ e =
    same_Some x e here in first_here x xs e.cookie (ap (λ (p : Pending). p.cookie) same) ∙ ap (λ (p : Pending). Some p.first) same
first_at_place (x ∷ xs) (suc i) e apart_all here =
    let later : first_of xs e.cookie ≡ Some e.first = first_at_place xs i e apart_all.1 here in
    first_later x xs e.cookie (apart xs x.cookie e.cookie e.first apart_all.0 later) ∙ later

-- ---- a cookie taken out

pub remove_other : (es : List Pending) (i : ℕ) (e : Pending) (q : ℕ) → slice_get es i ≡ Some e → q ≢ e.cookie → first_of (remove es i) q ≡ first_of es q
remove_other [] i e q here other = absurd (cc)
remove_other (x ∷ xs) zero e q here other =
    let is : x.cookie ≡ e.cookie = ap (λ (p : Pending). p.cookie) (same_Some x e here) in
    sym (first_later x xs q (λ at. other (sym at ∙ is)))
remove_other (x ∷ xs) (suc i) e q here other =
    ap (λ o. if x.cookie == q then Some x.first else o) (remove_other xs i e q here other)

pub remove_apart : (es : List Pending) (i : ℕ) (e : Pending) → AreApart es → slice_get es i ≡ Some e → AreApart (remove es i)
remove_apart [] i e all here = absurd (cc)
remove_apart (x ∷ xs) zero e all here = all.1
remove_apart (x ∷ xs) (suc i) e all here =
    (remove_other xs i e x.cookie here (apart xs x.cookie e.cookie e.first all.0 (first_at_place xs i e all.1 here)) ∙ all.0, remove_apart xs i e all.1 here)

pub remove_same : (es : List Pending) (i : ℕ) (e : Pending) → AreApart es → slice_get es i ≡ Some e → first_of (remove es i) e.cookie ≡ None
remove_same [] i e all here = absurd (cc)
remove_same (x ∷ xs) zero e all here = ap (first_of xs) (sym (ap (λ (p : Pending). p.cookie) (same_Some x e here))) ∙ all.0
remove_same (x ∷ xs) (suc i) e all here =
    first_later x (remove xs i) e.cookie (apart xs x.cookie e.cookie e.first all.0 (first_at_place xs i e all.1 here)) ∙ remove_same xs i e all.1 here

-- ---- one cookie more

pub push_other : (es : List Pending) (new : Pending) (q : ℕ) → q ≢ new.cookie → first_of (es ++ new ∷ []) q ≡ first_of es q
push_other [] new q other = first_later new [] q (λ at. other (sym at))
push_other (x ∷ xs) new q other = ap (λ o. if x.cookie == q then Some x.first else o) (push_other xs new q other)

pub push_same : (es : List Pending) (new : Pending) → first_of es new.cookie ≡ None → first_of (es ++ new ∷ []) new.cookie ≡ Some new.first
push_same [] new none = first_here new [] new.cookie refl
push_same (x ∷ xs) new none =
    ⊎_elim
    (λ (same : x.cookie ≡ new.cookie). let some : first_of (x ∷ xs) new.cookie ≡ Some x.first = first_here x xs new.cookie same in absurd (cc))
    (λ (other : x.cookie ≢ new.cookie). first_later x (xs ++ new ∷ []) new.cookie other ∙ push_same xs new (sym (first_later x xs new.cookie other) ∙ none))
    (cases_eq x.cookie new.cookie)

pub push_apart : (es : List Pending) (new : Pending) → AreApart es → first_of es new.cookie ≡ None → AreApart (es ++ new ∷ [])
push_apart [] new all none = (refl, tt)
push_apart (x ∷ xs) new all none =
    ⊎_elim
    (λ (same : x.cookie ≡ new.cookie). let some : first_of (x ∷ xs) new.cookie ≡ Some x.first = first_here x xs new.cookie same in absurd (cc))
    (λ (other : x.cookie ≢ new.cookie). (push_other xs new x.cookie other ∙ all.0, push_apart xs new all.1 (sym (first_later x xs new.cookie other) ∙ none)))
    (cases_eq x.cookie new.cookie)

-- ---- as the code needs them: what stands at a place, whose cookie is the one that was looked for

pub taken_out-none : (es : List Pending) (c i : ℕ) (e : Pending) → AreApart es → slice_get es i ≡ Some e → e.cookie ≡ c → first_of (remove es i) c ≡ None
taken_out-none es c i e all here same = ap (first_of (remove es i)) (sym same) ∙ remove_same es i e all here

pub taken_out-others :
    (es : List Pending) (c i : ℕ) (e : Pending) → slice_get es i ≡ Some e → e.cookie ≡ c → (q : ℕ) → q ≢ c → first_of (remove es i) q ≡ first_of es q
taken_out-others es c i e here same q other = remove_other es i e q here (λ is. other (is ∙ same))

pub first_is :
    (es : List Pending) (c i : ℕ) (e d : Pending) → AreApart es → slice_get es i ≡ Some e → e.cookie ≡ c → Some (get_or es i d).first ≡ first_of es c
first_is es c i e d all here same =
    ap (λ (p : Pending). Some p.first) (get_or_from_slice_get es i e d here) ∙ sym (first_at_place es i e all here) ∙ ap (first_of es) same

pub last_first : (es : List Pending) (i c : ℕ) (e : Pending) → AreApart es → slice_get es i ≡ Some e → e.cookie ≡ c → (n : ℕ) × (first_of es c ≡ Some n)
last_first es i c e all here same = (e.first, ap (first_of es) (sym same) ∙ first_at_place es i e all here)

-- whether a cookie may get a first frame, where the table is full
pub place_if_found :
    (es : List Pending) (c : ℕ) (o : Option ℕ) → AreApart es → IfNone o (first_of es c ≡ None) →
    IfSome o (λ i. (e : Pending) × (slice_get es i ≡ Some e) × (e.cookie ≡ c)) → 64 ≤ length es →
    IsTrue (is_some o) ↔ (first_of es c ≡ None → length es < 64)
place_if_found es c None all none some full = (λ yes. absurd (cc), λ place. let few : length es < 64 = place none in absurd (omega arith))
place_if_found es c (Some i) all none some full =
    let first = last_first es i c some.0 all some.1 some.2 in
    (λ yes nothing. absurd (let both : Some first.0 ≡ None = sym first.1 ∙ nothing in cc), λ place. refl)
