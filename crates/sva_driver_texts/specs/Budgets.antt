-- What can't be made of a budget, and why.
use Rattle.std.specs.Prelude.{ℕ, ◌+◌, ◌==◌, ◌&&◌, ◌||◌, not, nat_lt, Bool, true, false, List, count_by, length}
use Rattle.std.specs.List.{list_any}
use Rattle.sva_open.specs.declared.acts.Act.TheVariants as act
use Rattle.sva_open.specs.declared.acts.LocalAct.{LocalAct}
use Rattle.sva_open.specs.declared.acts.LocalAct.TheVariants as local
use Rattle.sva_open.specs.declared.drivers.Device.{Device}
use Rattle.sva_open.specs.declared.drivers.Line.{Line}
use Rattle.sva_open.specs.declared.drivers.Saying.{Saying}
use Rattle.sva_open.specs.declared.drivers.Saying.TheVariants as saying

-- ---- Does a line start a PASID at an endpoint, or ask for a translation there?

abbrev pub is_start : LocalAct → Bool
is_start (local.Start pasid) = true
is_start _ = false

abbrev pub starts_at : (endpoint : ℕ) → Saying → Bool
starts_at endpoint (saying.Does (act.At own its)) = own == endpoint && is_start its
starts_at endpoint _ = false

abbrev pub is_started : List Line → (endpoint : ℕ) → Bool
is_started lines endpoint = list_any (λ (line : Line). starts_at endpoint line.saying) lines

abbrev pub is_ask : LocalAct → Bool
is_ask (local.Ask pasid page) = true
is_ask _ = false

abbrev pub asks_at : (endpoint : ℕ) → Saying → Bool
asks_at endpoint (saying.Does (act.At own its)) = own == endpoint && is_ask its
asks_at endpoint _ = false

abbrev pub is_asked : List Line → (endpoint : ℕ) → Bool
is_asked lines endpoint = list_any (λ (line : Line). asks_at endpoint line.saying) lines

-- how many lines do
abbrev pub asks_in : List Line → (endpoint : ℕ) → ℕ
asks_in lines endpoint = count_by (λ (line : Line). asks_at endpoint line.saying) lines

-- ---- What there is

-- may it do something by itself?
abbrev pub has_budget : Device → Bool
has_budget device = nat_lt 0 device.budget.asks || nat_lt 0 device.budget.uses || nat_lt 0 device.budget.faults

-- how many translations are asked for there, by itself and by lines
abbrev pub asks_of : List Line → (endpoint : ℕ) → Device → ℕ
asks_of lines endpoint device = device.budget.asks + asks_in lines endpoint

-- ---- What stands in the way

-- no PASID is ever on there, and each of the three needs one
abbrev pub is_unstarted : List Line → (endpoint : ℕ) → Device → Bool
is_unstarted lines endpoint device = has_budget device && not (is_started lines endpoint)

-- without a page it neither asks nor faults by itself
abbrev pub has_page : Device → Bool
has_page device = nat_lt 0 (length device.pages.items)

abbrev pub is_pageless : Device → Bool
is_pageless device = (nat_lt 0 device.budget.asks || nat_lt 0 device.budget.faults) && not (has_page device)

-- a use needs a translation, and one is held only where it was asked for: by the endpoint itself, or by a line
abbrev pub is_unasked : List Line → (endpoint : ℕ) → Device → Bool
is_unasked lines endpoint device =
    nat_lt 0 device.budget.uses
    && not (nat_lt 0 device.budget.asks && has_page device)
    && not (is_asked lines endpoint)
