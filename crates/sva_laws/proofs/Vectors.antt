-- An Invalidate Completion in flight carries the ITags of the orders that it names, and the count by which each is owed.
use Rattle.std.proofs.Common.{◌≡◌, ◌≢◌, ◌⊎◌, inl, inr, refl, ap, sym, ◌∙◌, ℕ, zero, suc, ◌+◌, ◌<◌, ◌≤◌, Bool, true, false, arith}
use Rattle.std.specs.Prelude.{Some, None}
use Rattle.std.proofs.lemmas.Bool.Decides.{nat_tests}
use Rattle.std.proofs.lemmas.Bool.{cases_lt}
use Rattle.sva_model.specs.Words.{put, count_below}
use Rattle.sva_model.specs.Message.Message.{InvalidatedMessage}
use Rattle.sva_model.specs.State.{Subject, Mappings, OrderState, Endpoint}
use Rattle.sva_model.specs.State.OrderState.{Sent, Completing, Void}
use Rattle.sva_model.specs.State.Subject.{InvalidateOf, InvalidatedOf}
use Rattle.sva_model.specs.State.Phase.{Cleared}
use Rattle.sva_model.specs.States.{is_taken}
use Rattle.sva_model.specs.Labels.{is_set}
use Rattle.sva_model.specs.Unmappings.{submitted}
use Rattle.sva_model.specs.StateChanges.{counted_if, completing_if, count_field}
use Rattle.sva_model.specs.Acts.{LocalAct, act_alone}
use Rattle.sva_laws.specs.LabelLaws.{IsVectorOf, count_read}
use Rattle.sva_laws.specs.UnderWay.{names_order, left_of}
use Rattle.sva_labels.proofs.Words.{put-same, put-other}
use Rattle.sva_labels.proofs.Counting.{count_off}
use Rattle.sva_laws.proofs.Legal.{LegalLocalAct}
use Rattle.sva_laws.proofs.Resets.{Resets}
use Rattle.sva_laws.proofs.Bounds.{Bounds}
use Rattle.sva_laws.proofs.Labels.{Labels}
use Rattle.sva_laws.proofs.Completions.{Owed, counts_completions, sent_below, finish_new}

-- what stands at the clause of an Invalidate Completion (`IsCarried`)
abbrev pub IsOwedFor : Endpoint → (message : ℕ) → (ℕ → Bool) → Type 0
IsOwedFor p c names =
    (vector field : ℕ)
    × (p.carried c ≡ InvalidatedMessage vector field) × (field < 8) × IsVectorOf p names vector
    × ((k : ℕ) → names k ≡ true → (left : ℕ) × (p.order_state k ≡ Completing (count_read field) left))

abbrev pub AreOwed : Endpoint → Type 0
AreOwed p = (c : ℕ) (names : ℕ → Bool) → p.message c ≡ Some (InvalidatedOf names) → IsOwedFor p c names

-- an order that is owed keeps its ITag, whatever is done
itag_same : (ms : Mappings) (g n : ℕ) (p : Endpoint) (o : LocalAct) → LegalLocalAct ms g p o → (k count left : ℕ) → p.order_state k ≡ Completing count left
    → (act_alone p n o).itag k ≡ p.itag k
itag_same ms g n p o l k count left h = grind (arith, nat_tests)

-- all acts but these leave what it is owed
state_same : (ms : Mappings) (g n : ℕ) (p : Endpoint) (o : LocalAct) → LegalLocalAct ms g p o → counts_completions o ≡ false
    → ((c j : ℕ) → p.message c ≡ Some (InvalidateOf j) → p.order_state j ≡ Sent) → (k count left : ℕ) → (p.orders ≤ k → p.order_state k ≡ Void)
    → p.order_state k ≡ Completing count left → (act_alone p n o).order_state k ≡ Completing count left
state_same ms g n p o l e sent k count left bo h = grind (arith, nat_tests)

message_same : (ms : Mappings) (g n : ℕ) (p : Endpoint) (o : LocalAct) → LegalLocalAct ms g p o → counts_completions o ≡ false → (c : ℕ) (names : ℕ → Bool)
    → (act_alone p n o).message c ≡ Some (InvalidatedOf names) → p.message c ≡ Some (InvalidatedOf names)
message_same ms g n p o l e c names h = grind (arith, nat_tests)

carried_same : (ms : Mappings) (g n : ℕ) (p : Endpoint) (o : LocalAct) → LegalLocalAct ms g p o → (c : ℕ) (a : Subject) → (n ≤ c → p.message c ≡ None)
    → p.message c
    ≡ Some a → (act_alone p n o).carried c ≡ p.carried c
carried_same ms g n p o l c a un h = grind (arith, nat_tests)

-- from an order that is owed to the same after the act
kept : (ms : Mappings) (g n : ℕ) (p : Endpoint) (o : LocalAct) → LegalLocalAct ms g p o → (c : ℕ) (names : ℕ → Bool) → (n ≤ c → p.message c ≡ None)
    → p.message c
    ≡ Some (InvalidatedOf names)
    → ((k count left : ℕ) → names k ≡ true → p.order_state k ≡ Completing count left → (rest : ℕ) × ((act_alone p n o).order_state k ≡ Completing count rest))
    → IsOwedFor p c names → IsOwedFor (act_alone p n o) c names
kept ms g n p o l c names un m stays (vector, field, carried, low, bits, owed) = (
  vector,
  field,
  carried_same ms g n p o l c (InvalidatedOf names) un m ∙ carried,
  low,
  record {
    named = λ k nm. ap (is_set vector) (same k nm) ∙ bits.named k nm;
    set = λ t low s. let b = bits.set t low s in (b.0, b.1, same b.0 b.1 ∙ b.2);
  },
  λ k nm. stays k (count_read field) (owed k nm).0 nm (owed k nm).1,
)
  where
    same : (k : ℕ) → names k ≡ true → (act_alone p n o).itag k ≡ p.itag k
    same k nm = itag_same ms g n p o l k (count_read field) (owed k nm).0 (owed k nm).1

plain : (ms : Mappings) (g n : ℕ) (p : Endpoint) (o : LocalAct) → LegalLocalAct ms g p o → counts_completions o ≡ false → Resets n p → Bounds g p → Labels p
    → AreOwed p → AreOwed (act_alone p n o)
plain ms g n p o l e re bo la old c names h =
    let m : p.message c ≡ Some (InvalidatedOf names) = message_same ms g n p o l e c names h in
    kept ms g n p o l c names (re.unsent c) m (λ k count left nm s. (left, state_same ms g n p o l e la.sent k count left (bo.order_state k) s))
    (old c names m)

finish_older : (n : ℕ) (p : Endpoint) (ns : ℕ → Bool) (vector count c : ℕ) → c < n → (act_alone p n (LocalAct.Finish ns vector count)).message c ≡ p.message c
finish_older n p ns vector count c lt = grind (arith, nat_tests)

finish_below : (n : ℕ) (p : Endpoint) (ns : ℕ → Bool) (vector count c : ℕ) (a : Subject) → p.message c ≡ None
    → (act_alone p n (LocalAct.Finish ns vector count)).message c ≡ Some a → c < n + count
finish_below n p ns vector count c a un h = grind (arith, nat_tests)

finish_carried : (n : ℕ) (p : Endpoint) (ns : ℕ → Bool) (vector count c : ℕ) → n ≤ c → c < n + count
    → (act_alone p n (LocalAct.Finish ns vector count)).carried c
    ≡ InvalidatedMessage vector (count_field count)
finish_carried n p ns vector count c lt up = grind (arith, nat_tests)

owed_stays : (b : Bool) (s : OrderState) (more count left : ℕ) → (b ≡ true → is_taken s ≡ true) → s ≡ Completing count left → completing_if b more s
    ≡ Completing count left
owed_stays b s more count left taken h = grind arith

-- the count field as it is read
field_low : (count : ℕ) → 0 < count → count ≤ 8 → count_field count < 8
field_low count l m = grind (arith, nat_tests)

read_back : (count : ℕ) → 0 < count → count ≤ 8 → count_read (count_field count) ≡ count
read_back count l m = grind (arith, nat_tests)

finished : (ms : Mappings) (g n : ℕ) (p : Endpoint) (ns : ℕ → Bool) (vector count : ℕ) → LegalLocalAct ms g p (LocalAct.Finish ns vector count) → Resets n p
    → AreOwed p → AreOwed (act_alone p n (LocalAct.Finish ns vector count))
finished ms g n p ns vector count l re old c names h = go (cases_lt c n)
  where
    go : (c < n) ⊎ (n ≤ c) → IsOwedFor (act_alone p n (LocalAct.Finish ns vector count)) c names
    go (inl lt) =
        let m : p.message c ≡ Some (InvalidatedOf names) = sym (finish_older n p ns vector count c lt) ∙ h in
        kept ms g n p (LocalAct.Finish ns vector count) l c names (re.unsent c) m
        (λ k was left nm s. (left, owed_stays (ns k) (p.order_state k) count was left (l.1 k) s)) (old c names m)
    go (inr up) = (
      vector,
      count_field count,
      finish_carried n p ns vector count c up below,
      field_low count l.3 l.4,
      record {
        named = λ k nm. l.5.named k (same k ∙ nm);
        set = λ t low s. let b = l.5.set t low s in (b.0, sym (same b.0) ∙ b.1, b.2);
      },
      λ k nm. (count, ap (λ b. completing_if b count (p.order_state k)) (same k ∙ nm) ∙ ap (λ z. Completing z count) (sym (read_back count l.3 l.4))),
    )
      where
        below : c < n + count
        below = finish_below n p ns vector count c (InvalidatedOf names) (re.unsent c up) h

        same : (k : ℕ) → ns k ≡ names k
        same k = sym (finish_new n p ns vector count k c up below) ∙ ap (names_order k) h

-- A completion arrives at an open unit: where an order is owed one more only, no other in flight names it.
count_apart : (n : ℕ) (p : Endpoint) (c d : ℕ) (ns : ℕ → Bool) (a : Subject) → (act_alone p n (LocalAct.Count c ns)).message d ≡ Some a → d ≢ c
count_apart n p c d ns a h = grind (arith, nat_tests)

count_old : (n : ℕ) (p : Endpoint) (c d : ℕ) (ns : ℕ → Bool) (a : Subject) → (act_alone p n (LocalAct.Count c ns)).message d ≡ Some a → p.message d ≡ Some a
count_old n p c d ns a h = grind (arith, nat_tests)

two_pass : (n : ℕ) (f : ℕ → Bool) (c d : ℕ) → c < n → d < n → d ≢ c → f c ≡ true → f d ≡ true → count_below n f ≢ 1
two_pass n f c d lc ld ne fc fd one =
    let g : ℕ → Bool = put f c false in
    let x : count_below n f ≡ suc (count_below n g) = count_off n f g c lc fc (put-same f c false) (λ x o. sym (put-other f c false x o)) in
    let y : count_below n g ≡ suc (count_below n (put g d false)) =
    count_off n g (put g d false) d ld (put-other f c false d ne ∙ fd) (put-same g d false) (λ x o. sym (put-other g d false x o))
    in
    absurd (omega (arith, one, x, y))

counted_owed : (ms : Mappings) (g n : ℕ) (p : Endpoint) (c : ℕ) (ns : ℕ → Bool) → LegalLocalAct ms g p (LocalAct.Count c ns) → Resets n p → Owed n p → AreOwed p
    → AreOwed (act_alone p n (LocalAct.Count c ns))
counted_owed ms g n p c ns l re ow old d names h =
    kept ms g n p (LocalAct.Count c ns) l d names (re.unsent d) m (λ k count left nm s. go k count left nm s (ns k) refl) (old d names m)
  where
    m : p.message d ≡ Some (InvalidatedOf names)
    m = count_old n p c d ns (InvalidatedOf names) h

    go : (k count left : ℕ) → names k ≡ true → p.order_state k ≡ Completing count left → (b : Bool) → ns k ≡ b → (rest : ℕ)
        × (counted_if (ns k) (p.order_state k) ≡ Completing count rest)
    go k count left nm s false e = (left, ap (λ b. counted_if b (p.order_state k)) e ∙ s)
    go k count zero nm s true e = (zero, ap (λ b. counted_if b (p.order_state k)) e ∙ ap (counted_if true) s)
    go k count (suc zero) nm s true e =
        absurd (
        two_pass n (λ x. names_order k (p.message x)) c d (sent_below n c p (InvalidatedOf ns) (re.unsent c) l.0)
        (sent_below n d p (InvalidatedOf names) (re.unsent d) m)
        (count_apart n p c d ns (InvalidatedOf names) h)
        (ap (names_order k) l.0 ∙ e)
        (ap (names_order k) m ∙ nm)
        (ow.owed k l.1 ∙ ap left_of s)
        )
    go k count (suc (suc left)) nm s true e = (suc left, ap (λ b. counted_if b (p.order_state k)) e ∙ ap (counted_if true) s)

-- at the end of a reset nothing is in flight
reopened : (ms : Mappings) (g n : ℕ) (p : Endpoint) (c d : ℕ) (a : Subject) → LegalLocalAct ms g p (LocalAct.Reopen c) → p.phase ≡ Cleared c
    → ((b : Subject) → p.message d ≡ Some b → d ≤ c) → (act_alone p n (LocalAct.Reopen c)).message d ≢ Some a
reopened ms g n p c d a l ph old h = grind (arith, nat_tests)

by_act : (ms : Mappings) (g n : ℕ) (p : Endpoint) (o : LocalAct) → LegalLocalAct ms g p o → Resets n p → Bounds g p → Labels p → Owed n p → AreOwed p
    → (b : Bool)
    → counts_completions o ≡ b → AreOwed (act_alone p n o)
by_act ms g n p o l re bo la ow old false e = plain ms g n p o l e re bo la old
by_act ms g n p (LocalAct.Finish ns vector count) l re bo la ow old true e = finished ms g n p ns vector count l re old
by_act ms g n p (LocalAct.Count c ns) l re bo la ow old true e = counted_owed ms g n p c ns l re ow old
by_act ms g n p (LocalAct.Reopen c) l re bo la ow old true e =
    λ d names h. absurd (reopened ms g n p c d (InvalidatedOf names) l (re.up c l.0) (λ a x. re.older c d a (re.up c l.0) x) h)
by_act ms g n p o l re bo la ow old true e = absurd (grind arith)

pub owed_for_kept : (ms : Mappings) (g n : ℕ) (p : Endpoint) (o : LocalAct) → LegalLocalAct ms g p o → Resets n p → Bounds g p → Labels p → Owed n p → AreOwed p
    → AreOwed (act_alone p n o)
owed_for_kept ms g n p o l re bo la ow old = by_act ms g n p o l re bo la ow old (counts_completions o) refl

-- a submission leaves the orders that were made
submitted_state : (g b q count order cookie k c left : ℕ) (p : Endpoint) → (p.orders ≤ k → p.order_state k ≡ Void) → p.order_state k ≡ Completing c left
    → (submitted p b q count order cookie).order_state k ≡ Completing c left
submitted_state g b q count order cookie k c left p bo h = grind (arith, nat_tests)

pub owed_for_submitted : (g b q count order cookie : ℕ) (p : Endpoint) → Bounds g p → AreOwed p → AreOwed (submitted p b q count order cookie)
owed_for_submitted g b q count order cookie p bo old c names h = go (old c names h)
  where
    go : IsOwedFor p c names → IsOwedFor (submitted p b q count order cookie) c names
    go (vector, field, carried, low, bits, owed) = (
      vector,
      field,
      carried,
      low,
      record { named = bits.named; set = bits.set },
      λ k nm. ((owed k nm).0, submitted_state g b q count order cookie k (count_read field) (owed k nm).0 p (bo.order_state k) (owed k nm).1),
    )
