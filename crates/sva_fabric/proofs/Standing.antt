-- Receipts in a journal, and the places of a port's receipts.
use Rattle.std.proofs.Common.{◌≡◌, ℕ, zero, suc, ◌-◌, ◌+◌, ◌<◌, Option, Some, None, List, [], ◌∷◌, ◌++◌, length, refl, sym, ap, subst, ◌∙◌, arith}
use Rattle.std.specs.Prelude.{Result, Ok, Err, slice_get, IfSome, IfOk, IfErr, OnOk}
use Rattle.std.proofs.lemmas.Option.{slice_get_within}
use Rattle.sva_frames.specs.declared.pool.Counts.{Counts}
use Rattle.sva_step.specs.declared.limits.Config.{Config}
use Rattle.sva_step.specs.declared.steps.Step.{Step}
use Rattle.sva_core.specs.declared.journal.Entry.{Entry}
use Rattle.sva_core.specs.declared.receipts.Receipt.{Receipt}
use Rattle.sva_core.specs.declared.running.Strayed.{Strayed}
use Rattle.sva_labels.proofs.Lists.{get_before, get_end}
use Rattle.sva_core.proofs.TokenLemmas.{length_more}
use Rattle.sva_core.specs.Journal.{History, IsLegal, CountsOf, entry_of, with_entry}
use Rattle.sva_fabric.specs.Receipts.{PortState, AreRising, IsAnswered, IsCounted, IsAstray, last_of}
use Rattle.sva_core.specs.Receipts.{Stands, HasStrayed, IsAnsweredAt, entry_told}

-- what stood before stands in the longer journal, at a lower place than its end
last_stands_more : (entries : List Entry) (e : Entry) (port place : ℕ) (last : Option Receipt) → place ≡ length entries
    → IfSome last (λ l. Stands entries port l) → IfSome last (λ l. (l.place < place) × Stands (entries ++ e ∷ []) port l)
last_stands_more entries e port place None at h = tt
last_stands_more entries e port place (Some l) at h =
    let within : l.place < length entries = slice_get_within entries l.place (entry_told port l) h in
    (omega (arith, within, at), get_before entries (e ∷ []) l.place (entry_told port l) h)

-- the call that was answered at the journal's end, told without the journal
pub answered : (config : Config) (before after : History) (port : ℕ) (last : Option Receipt) (step : Step) (r : Receipt)
    → IsAnsweredAt before port last step r → after ≡ with_entry before (entry_of port r.step r.answer) → IsLegal after → after.config ≡ config
    → IsAnswered config port last step r
answered config before after port last step r at is legal of = record {
  journal = with_entry before (entry_told port r);
  legal = subst IsLegal is legal;
  of_config = sym (ap (λ (h : History). h.config) is) ∙ of;
  step_is = at.step_is;
  stands = subst (λ (k : ℕ). slice_get (before.entries ++ entry_told port r ∷ []) k ≡ Some (entry_told port r)) (sym at.place_is)
      (get_end before.entries (entry_told port r));
  last_stands = last_stands_more before.entries (entry_told port r) port r.place last at.place_is at.last_stands;
}

-- counts that were told, or that something else stood there, told without the journal
pub counted : (config : Config) (h : History) (port : ℕ) (last : Option Receipt) (r : Result Counts Strayed) → IsLegal h → h.config ≡ config
    → IfOk r (CountsOf h) → OnOk r (IfSome last (λ l. Stands h.entries port l)) → IfOk r (IsCounted config port last)
counted config h port last (Ok n) legal of is stands = record { journal = h; legal = legal; of_config = of; last_stands = stands; counts = is }
counted config h port last (Err f) legal of is stands = tt

pub astray : (config : Config) (h : History) (port : ℕ) (last : Option Receipt) (r : Result Counts Strayed) → IsLegal h → h.config ≡ config
    → IfErr r (HasStrayed h.entries port last) → IfErr r (IsAstray config port last)
astray config h port last (Ok n) legal of has = tt
astray config h port last (Err f) legal of has = (h, legal, of, has)

-- the last of several receipts is the last of those behind the first
last_next : (a b : Receipt) (rs : List Receipt) → last_of (a ∷ b ∷ rs) ≡ last_of (b ∷ rs)
last_next a b rs =
    let one : suc (suc (length rs)) - 1 ≡ suc (length rs) = omega arith in
    let other : suc (length rs) - 1 ≡ length rs = omega arith in
    ap (slice_get (a ∷ b ∷ rs)) one ∙ sym (ap (slice_get (b ∷ rs)) other)

-- a receipt more, above the last one
pub rising_more : (rs : List Receipt) (r : Receipt) (P : Receipt → Type 0) → AreRising rs → IfSome (last_of rs) (λ l. (l.place < r.place) × P l)
    → AreRising (rs ++ r ∷ [])
rising_more [] r P h last = tt
rising_more (a ∷ []) r P h last = (last.0, tt)
rising_more (a ∷ b ∷ rs) r P h last = (
  h.0,
  rising_more (b ∷ rs) r P h.1 (subst (λ (o : Option Receipt). IfSome o (λ l. (l.place < r.place) × P l)) (last_next a b rs) last),
)

-- the port behind a call that was answered: its receipts are the old ones and this one, whose place is above theirs; and it counts each
pub port_more : (number : ℕ) (old grown new : List Receipt) (s : PortState) (r : Receipt) → record { number = number; receipts = old } ≡ s
    → grown ≡ old → new ≡ grown ++ r ∷ [] → record { number = number; receipts = new } ≡ record s { receipts = s.receipts ++ r ∷ [] }
port_more number old grown new s r is same more =
    ap (λ (rs : List Receipt). record { number = number; receipts = rs }) (more ∙ ap (λ (rs : List Receipt). rs ++ r ∷ []) same)
    ∙ ap (λ (t : PortState). record t { receipts = t.receipts ++ r ∷ [] }) is

pub rise_more : (config : Config) (port : ℕ) (old grown new : List Receipt) (last : Option Receipt) (step : Step) (r : Receipt) → AreRising old
    → last ≡ last_of old → IsAnswered config port last step r → grown ≡ old → new ≡ grown ++ r ∷ [] → AreRising new
rise_more config port old grown new last step r rise is here same more =
    let there : IsAnswered config port (last_of old) step r = subst (λ (o : Option Receipt). IsAnswered config port o step r) is here in
    let all : new ≡ old ++ r ∷ [] = more ∙ ap (λ (rs : List Receipt). rs ++ r ∷ []) same in
    subst AreRising (sym all) (rising_more old r (λ (l : Receipt). Stands there.journal.entries port l) rise there.last_stands)

pub counts_more : (after before : ℕ) (old grown new : List Receipt) (r : Receipt) → after ≡ before + 1 → before ≡ length old → grown ≡ old
    → new ≡ grown ++ r ∷ [] → after ≡ length new
counts_more after before old grown new r one is same more =
    let all : new ≡ old ++ r ∷ [] = more ∙ ap (λ (rs : List Receipt). rs ++ r ∷ []) same in
    one ∙ (ap (λ (n : ℕ). n + 1) is ∙ (sym (length_more old r) ∙ sym (ap length all)))
