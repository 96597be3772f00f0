-- Texts that are made of one piece for each of a list, at its place.
use Rattle.std.proofs.Common.{◌≡◌, ◌∙◌, ◌<◌, ◌≤◌, ◌+◌, ap, append-nil, append_assoc, add-one, refl}
use Rattle.std.proofs.Common.{sym, ℕ, suc, List, [], ◌∷◌, ◌++◌, Bool, length, get_or, drop}
use Rattle.std.proofs.Common.{Option, Some, None, true, false}
use Rattle.std.specs.Option.{unwrap_or}
use Rattle.std.specs.Prelude.{if◌then◌else◌, is_some, replicate, slice_get}
use Rattle.std.proofs.lemmas.List.{drop_all, drop_more, replicate_more}
use Rattle.sva_search.specs.Rules.{IsStep}
use Rattle.sva_open.specs.World.{Part}
use Rattle.sva_open.specs.declared.rows.Row.{Row}
use Rattle.sva_open.specs.declared.works.Group.{Group}
use Rattle.sva_judge.specs.Spots.{Spot}
use Rattle.sva_open.specs.declared.drivers.Device.{Device}
use Rattle.sva_open.specs.declared.drivers.Line.{Line}
use Rattle.sva_judge.specs.declared.verdicts.Looked.{Looked}
use Rattle.sva_driver_texts.specs.declared.kept.Text.{Text}
use Rattle.sva_driver_reports.specs.Limits.{ask_text, asks_from}
use Rattle.sva_driver_reports.specs.Nevers.{never_text, nevers_from}
use Rattle.sva_driver_reports.specs.Reports.{budgets_from, group_text, groups_from, marked_text, part_text, parts_from, rows_from, stopping_text}
use Rattle.sva_driver_reports.specs.Reports.{other_text, others_from, waiting_place, waits_by}
use Rattle.sva_driver_reports.specs.Untaken.{number_text, numbers_from}
use Rattle.sva_driver_reports.specs.Witness.{EventSaid, before_text, befores, behind_place, conduct_text, conducts_from, spot_before, wider}
use Rattle.sva_driver_reports.specs.Witness.{width_from}

-- ---- A piece, and what follows it

pub joined : (old mid new piece rest : List ℕ) → mid ≡ old ++ piece → new ≡ mid ++ rest → new ≡ old ++ (piece ++ rest)
joined old mid new piece rest first last = last ∙ ap (λ l. l ++ rest) first ∙ append_assoc old piece rest

-- ---- One piece more, and none

module _ {A : Type 0} (all : ℕ → List A → List ℕ) (piece : ℕ → A → List ℕ) where
  next_piece : ((i : ℕ) (x : A) (xs : List A) → all i (x ∷ xs) ≡ piece i x ++ all (i + 1) xs)
      → (xs : List A) (i : ℕ) (blank : A) (out new whole : List ℕ) → i < length xs → out ++ all i (drop i xs) ≡ whole
      → new ≡ out ++ piece i (get_or xs i blank) → new ++ all (i + 1) (drop (i + 1) xs) ≡ whole
  next_piece opened xs i blank out new whole inside so_far is =
      let x = get_or xs i blank in
      ap (λ l. l ++ all (i + 1) (drop (i + 1) xs)) is ∙ append_assoc out (piece i x) (all (i + 1) (drop (i + 1) xs))
      ∙ sym (ap (λ l. out ++ l) (ap (all i) (drop_more xs i blank inside) ∙ opened i x (drop (i + 1) xs))) ∙ so_far

  last_piece : ((i : ℕ) → all i [] ≡ []) → (xs : List A) (i : ℕ) (out whole : List ℕ) → length xs ≤ i → out ++ all i (drop i xs) ≡ whole
      → out ≡ whole
  last_piece none xs i out whole past so_far =
      sym (append-nil out) ∙ sym (ap (λ l. out ++ l) (ap (all i) (drop_all i xs past) ∙ none i)) ∙ so_far

-- ---- What endpoints are like

conducts_more : (i : ℕ) (x : Part) (xs : List Part)
    → conducts_from i (x ∷ xs) ≡ conduct_text i x ++ conducts_from (i + 1) xs
unfolding conducts_from
conducts_more i x xs = refl

conducts_none : (i : ℕ) → conducts_from i [] ≡ []
unfolding conducts_from
conducts_none i = refl

pub conducts_next : (xs : List Part) (i : ℕ) (blank : Part) (out new whole : List ℕ) → i < length xs
    → out ++ conducts_from i (drop i xs) ≡ whole
    → new ≡ out ++ conduct_text i (get_or xs i blank) → new ++ conducts_from (i + 1) (drop (i + 1) xs) ≡ whole
conducts_next xs i blank out new whole inside so_far is =
    next_piece (λ i xs. conducts_from i xs) (λ i x. conduct_text i x)
    conducts_more xs i blank out new whole inside so_far is

pub conducts_end : (xs : List Part) (i : ℕ) (out whole : List ℕ) → length xs ≤ i
    → out ++ conducts_from i (drop i xs) ≡ whole → out ≡ whole
conducts_end xs i out whole past so_far =
    last_piece (λ i xs. conducts_from i xs) (λ i x. conduct_text i x) conducts_none xs i out whole past so_far

-- ---- PASIDs

rows_more : (endpoint : ℕ) (i : ℕ) (x : Row) (xs : List Row) → rows_from endpoint i (x ∷ xs) ≡ stopping_text endpoint i x ++ rows_from endpoint (i + 1) xs
unfolding rows_from
rows_more endpoint i x xs = refl

rows_none : (endpoint : ℕ) (i : ℕ) → rows_from endpoint i [] ≡ []
unfolding rows_from
rows_none endpoint i = refl

pub rows_next : (endpoint : ℕ) (xs : List Row) (i : ℕ) (blank : Row) (out new whole : List ℕ) → i < length xs
    → out ++ rows_from endpoint i (drop i xs) ≡ whole
    → new ≡ out ++ stopping_text endpoint i (get_or xs i blank) → new ++ rows_from endpoint (i + 1) (drop (i + 1) xs) ≡ whole
rows_next endpoint xs i blank out new whole inside so_far is =
    next_piece (λ i xs. rows_from endpoint i xs) (λ i x. stopping_text endpoint i x) (rows_more endpoint) xs i blank out new whole inside so_far is

pub rows_end : (endpoint : ℕ) (xs : List Row) (i : ℕ) (out whole : List ℕ) → length xs ≤ i → out ++ rows_from endpoint i (drop i xs) ≡ whole → out ≡ whole
rows_end endpoint xs i out whole past so_far = last_piece (λ i xs. rows_from endpoint i xs) (λ i x. stopping_text endpoint i x)
    (rows_none endpoint) xs i out whole past so_far

-- ---- Groups

groups_more : (endpoint : ℕ) (i : ℕ) (x : (Option Group)) (xs : List (Option Group))
    → groups_from endpoint i (x ∷ xs) ≡ group_text endpoint i x ++ groups_from endpoint (i + 1) xs
unfolding groups_from
groups_more endpoint i x xs = refl

groups_none : (endpoint : ℕ) (i : ℕ) → groups_from endpoint i [] ≡ []
unfolding groups_from
groups_none endpoint i = refl

pub groups_next : (endpoint : ℕ) (xs : List (Option Group)) (i : ℕ) (blank : (Option Group)) (out new whole : List ℕ) → i < length xs
    → out ++ groups_from endpoint i (drop i xs) ≡ whole
    → new ≡ out ++ group_text endpoint i (get_or xs i blank) → new ++ groups_from endpoint (i + 1) (drop (i + 1) xs) ≡ whole
groups_next endpoint xs i blank out new whole inside so_far is =
    next_piece (λ i xs. groups_from endpoint i xs) (λ i x. group_text endpoint i x) (groups_more endpoint) xs i blank out new whole inside so_far is

pub groups_end : (endpoint : ℕ) (xs : List (Option Group)) (i : ℕ) (out whole : List ℕ) → length xs ≤ i
    → out ++ groups_from endpoint i (drop i xs) ≡ whole → out ≡ whole
groups_end endpoint xs i out whole past so_far = last_piece (λ i xs. groups_from endpoint i xs) (λ i x. group_text endpoint i x)
    (groups_none endpoint) xs i out whole past so_far

-- ---- Endpoints

parts_more : (i : ℕ) (x : Part) (xs : List Part) → parts_from i (x ∷ xs) ≡ part_text i x ++ parts_from (i + 1) xs
unfolding parts_from
parts_more i x xs = refl

parts_none : (i : ℕ) → parts_from i [] ≡ []
unfolding parts_from
parts_none i = refl

pub parts_next : (xs : List Part) (i : ℕ) (blank : Part) (out new whole : List ℕ) → i < length xs → out ++ parts_from i (drop i xs) ≡ whole
    → new ≡ out ++ part_text i (get_or xs i blank) → new ++ parts_from (i + 1) (drop (i + 1) xs) ≡ whole
parts_next xs i blank out new whole inside so_far is =
    next_piece (λ i xs. parts_from i xs) (λ i x. part_text i x) parts_more xs i blank out new whole inside so_far is

pub parts_end : (xs : List Part) (i : ℕ) (out whole : List ℕ) → length xs ≤ i → out ++ parts_from i (drop i xs) ≡ whole → out ≡ whole
parts_end xs i out whole past so_far = last_piece (λ i xs. parts_from i xs) (λ i x. part_text i x) parts_none xs i out whole past so_far

-- ---- Budgets

module _ (mark : List ℕ) (of : List Part) (lines : List Line) where
  budgets_more : (i : ℕ) (x : Device) (xs : List Device)
      → budgets_from mark of lines i (x ∷ xs) ≡ marked_text mark of lines i x ++ budgets_from mark of lines (i + 1) xs
  unfolding budgets_from
  budgets_more i x xs = refl

  budgets_none : (i : ℕ) → budgets_from mark of lines i [] ≡ []
  unfolding budgets_from
  budgets_none i = refl

  pub budgets_next : (xs : List Device) (i : ℕ) (blank : Device) (out new whole : List ℕ) → i < length xs
      → out ++ budgets_from mark of lines i (drop i xs) ≡ whole
      → new ≡ out ++ marked_text mark of lines i (get_or xs i blank)
      → new ++ budgets_from mark of lines (i + 1) (drop (i + 1) xs) ≡ whole
  budgets_next xs i blank out new whole inside so_far is =
      next_piece (λ i xs. budgets_from mark of lines i xs) (λ i x. marked_text mark of lines i x)
      budgets_more xs i blank out new whole inside so_far is

  pub budgets_end : (xs : List Device) (i : ℕ) (out whole : List ℕ) → length xs ≤ i
      → out ++ budgets_from mark of lines i (drop i xs) ≡ whole → out ≡ whole
  budgets_end xs i out whole past so_far =
      last_piece (λ i xs. budgets_from mark of lines i xs) (λ i x. marked_text mark of lines i x)
      budgets_none xs i out whole past so_far

-- ---- Asks that lack

module _ (has_caches : Bool) (lines : List Line) where
  asks_more : (i : ℕ) (x : Device) (xs : List Device)
      → asks_from has_caches lines i (x ∷ xs) ≡ ask_text has_caches lines i x ++ asks_from has_caches lines (i + 1) xs
  unfolding asks_from
  asks_more i x xs = refl

  asks_none : (i : ℕ) → asks_from has_caches lines i [] ≡ []
  unfolding asks_from
  asks_none i = refl

  pub asks_next : (xs : List Device) (i : ℕ) (blank : Device) (out new whole : List ℕ) → i < length xs
      → out ++ asks_from has_caches lines i (drop i xs) ≡ whole
      → new ≡ out ++ ask_text has_caches lines i (get_or xs i blank)
      → new ++ asks_from has_caches lines (i + 1) (drop (i + 1) xs) ≡ whole
  asks_next xs i blank out new whole inside so_far is =
      next_piece (λ i xs. asks_from has_caches lines i xs) (λ i x. ask_text has_caches lines i x)
      asks_more xs i blank out new whole inside so_far is

  pub asks_end : (xs : List Device) (i : ℕ) (out whole : List ℕ) → length xs ≤ i
      → out ++ asks_from has_caches lines i (drop i xs) ≡ whole → out ≡ whole
  asks_end xs i out whole past so_far =
      last_piece (λ i xs. asks_from has_caches lines i xs) (λ i x. ask_text has_caches lines i x)
      asks_none xs i out whole past so_far

-- ---- The lines before `race`

-- what was written of so many, and where they lead
pub record Fronted (text : Text) (first out : List ℕ) (spot : Spot) (place : ℕ) : Type 0 where
  pub told : out ≡ first ++ befores text place
  pub leads : spot ≡ spot_before text place

pub none_before : (text : Text) (out : List ℕ) (spot : Spot) → spot ≡ text.opened → Fronted text out out spot 0
unfolding befores spot_before
none_before text out spot is = record { told = sym (append-nil out); leads = is }

one_before : (text : Text) (place : ℕ) → befores text (suc place) ≡ befores text place ++ before_text text (spot_before text place) place
unfolding befores
one_before text place = refl

one_behind : (text : Text) (place : ℕ) → spot_before text (suc place) ≡ behind_place text (spot_before text place) place
unfolding spot_before
one_behind text place = refl

pub next_before : (text : Text) (place : ℕ) (first out new : List ℕ) (spot next : Spot) → Fronted text first out spot place
    → new ≡ out ++ before_text text spot place → next ≡ behind_place text spot place → Fronted text first new next (place + 1)
next_before text place first out new spot next so_far is leads =
    let piece = before_text text (spot_before text place) place in
    record {
      told = is ∙ ap (λ s. out ++ before_text text s place) so_far.leads ∙ ap (λ l. l ++ piece) so_far.told
          ∙ append_assoc first (befores text place) piece
          ∙ sym (ap (λ l. first ++ l) (ap (befores text) (add-one place) ∙ one_before text place));
      leads = leads ∙ ap (λ s. behind_place text s place) so_far.leads
          ∙ sym (ap (spot_before text) (add-one place) ∙ one_behind text place);
    }

-- a line that is taken, or not
pub stepped : (led : Option Spot) (taken : Bool) (before new : Spot) → IsStep led taken before new
    → (taken ≡ is_some led) × (new ≡ unwrap_or led before)
stepped None taken before new h = h
stepped (Some next) taken before new h = h

-- ---- The line that waits

pub waiting_more : (text : Text) (spot : Spot) (lines : List Line) (place : ℕ) (blank : Line) → place < length lines
    → waits_by spot place (get_or lines place blank) (slice_get text.said.items place) ≡ false
    → waiting_place text spot place (drop place lines) ≡ waiting_place text spot (place + 1) (drop (place + 1) lines)
unfolding waiting_place
waiting_more text spot lines place blank inside other =
    ap (waiting_place text spot place) (drop_more lines place blank inside)
    ∙ ap (λ b. if b then Some place else waiting_place text spot (place + 1) (drop (place + 1) lines)) other

pub waiting_here : (text : Text) (spot : Spot) (lines : List Line) (place : ℕ) (blank : Line) → place < length lines
    → waits_by spot place (get_or lines place blank) (slice_get text.said.items place) ≡ true
    → waiting_place text spot place (drop place lines) ≡ Some place
unfolding waiting_place
waiting_here text spot lines place blank inside it =
    ap (waiting_place text spot place) (drop_more lines place blank inside)
    ∙ ap (λ b. if b then Some place else waiting_place text spot (place + 1) (drop (place + 1) lines)) it

pub waiting_none : (text : Text) (spot : Spot) (lines : List Line) (place : ℕ) → length lines ≤ place
    → waiting_place text spot place (drop place lines) ≡ None
unfolding waiting_place
waiting_none text spot lines place past = ap (waiting_place text spot place) (drop_all place lines past)

-- ---- The others that wait

module _ (text : Text) (spot : Spot) (first : ℕ) where
  others_more : (i : ℕ) (x : Line) (xs : List Line)
      → others_from text spot first i (x ∷ xs)
      ≡ other_text spot first i x (slice_get text.said.items i) ++ others_from text spot first (i + 1) xs
  unfolding others_from
  others_more i x xs = refl

  others_none : (i : ℕ) → others_from text spot first i [] ≡ []
  unfolding others_from
  others_none i = refl

  pub others_next : (xs : List Line) (i : ℕ) (blank : Line) (out new whole : List ℕ) → i < length xs
      → out ++ others_from text spot first i (drop i xs) ≡ whole
      → new ≡ out ++ other_text spot first i (get_or xs i blank) (slice_get text.said.items i)
      → new ++ others_from text spot first (i + 1) (drop (i + 1) xs) ≡ whole
  others_next xs i blank out new whole inside so_far is =
      next_piece (λ i xs. others_from text spot first i xs)
      (λ i x. other_text spot first i x (slice_get text.said.items i))
      others_more xs i blank out new whole inside so_far is

  pub others_end : (xs : List Line) (i : ℕ) (out whole : List ℕ) → length xs ≤ i
      → out ++ others_from text spot first i (drop i xs) ≡ whole → out ≡ whole
  others_end xs i out whole past so_far =
      last_piece (λ i xs. others_from text spot first i xs)
      (λ i x. other_text spot first i x (slice_get text.said.items i))
      others_none xs i out whole past so_far

-- ---- What never happened

module _ (devices : List Device) (lines : List Line) where
  nevers_more : (i : ℕ) (x : Looked) (xs : List Looked)
      → nevers_from devices lines (x ∷ xs) ≡ never_text devices lines x ++ nevers_from devices lines xs
  unfolding nevers_from
  nevers_more i x xs = refl

  nevers_none : (i : ℕ) → nevers_from devices lines [] ≡ []
  unfolding nevers_from
  nevers_none i = refl

  pub nevers_next : (xs : List Looked) (i : ℕ) (blank : Looked) (out new whole : List ℕ) → i < length xs
      → out ++ nevers_from devices lines (drop i xs) ≡ whole → new ≡ out ++ never_text devices lines (get_or xs i blank)
      → new ++ nevers_from devices lines (drop (i + 1) xs) ≡ whole
  nevers_next xs i blank out new whole inside so_far is =
      next_piece (λ i xs. nevers_from devices lines xs) (λ i x. never_text devices lines x) nevers_more xs i blank out new whole inside so_far is

  pub nevers_end : (xs : List Looked) (i : ℕ) (out whole : List ℕ) → length xs ≤ i
      → out ++ nevers_from devices lines (drop i xs) ≡ whole → out ≡ whole
  nevers_end xs i out whole past so_far =
      last_piece (λ i xs. nevers_from devices lines xs) (λ i x. never_text devices lines x) nevers_none xs i out whole past so_far

-- ---- Numbers of lines

module _ (count : ℕ) where
  numbers_more : (i : ℕ) (x : ℕ) (xs : List ℕ) → numbers_from count i (x ∷ xs) ≡ number_text count i x ++ numbers_from count (i + 1) xs
  unfolding numbers_from
  numbers_more i x xs = refl

  numbers_none : (i : ℕ) → numbers_from count i [] ≡ []
  unfolding numbers_from
  numbers_none i = refl

  pub numbers_next : (xs : List ℕ) (i : ℕ) (blank : ℕ) (out new whole : List ℕ) → i < length xs
      → out ++ numbers_from count i (drop i xs) ≡ whole → new ≡ out ++ number_text count i (get_or xs i blank)
      → new ++ numbers_from count (i + 1) (drop (i + 1) xs) ≡ whole
  numbers_next xs i blank out new whole inside so_far is =
      next_piece (λ i xs. numbers_from count i xs) (λ i x. number_text count i x) numbers_more xs i blank out new whole inside so_far is

  pub numbers_end : (xs : List ℕ) (i : ℕ) (out whole : List ℕ) → length xs ≤ i → out ++ numbers_from count i (drop i xs) ≡ whole
      → out ≡ whole
  numbers_end xs i out whole past so_far =
      last_piece (λ i xs. numbers_from count i xs) (λ i x. number_text count i x) numbers_none xs i out whole past so_far

-- ---- Widths

pub wider_more : (width next : ℕ) (events : List EventSaid) (place : ℕ) (blank : EventSaid) → place < length events
    → next ≡ wider width (get_or events place blank) → width_from width (drop place events) ≡ width_from next (drop (place + 1) events)
unfolding width_from
wider_more width next events place blank inside is =
    ap (width_from width) (drop_more events place blank inside) ∙ ap (λ w. width_from w (drop (place + 1) events)) (sym is)

pub wider_none : (width : ℕ) (events : List EventSaid) (place : ℕ) → length events ≤ place → width_from width (drop place events) ≡ width
unfolding width_from
wider_none width events place past = ap (width_from width) (drop_all place events past)

-- ---- Blanks

pub blank_more : (first out new : List ℕ) (count : ℕ) → out ≡ first ++ replicate count 32 → new ≡ out ++ 32 ∷ []
    → new ≡ first ++ replicate (count + 1) 32
blank_more first out new count so_far is =
    is ∙ ap (λ l. l ++ 32 ∷ []) so_far ∙ append_assoc first (replicate count 32) (32 ∷ [])
    ∙ ap (λ l. first ++ l) (replicate_more count 32)
