-- Numbers and cookies never pass 2^63; those of spaces, bindings and messages in flight rise, and the next one is new.
use Rattle.std.proofs.Common.{ℕ, zero, suc, ◌+◌, ◌^◌, ◌<◌, ◌≤◌, arith}
use Rattle.std.specs.Prelude.{List}
use Rattle.sva_step.specs.declared.limits.Config.{Config}
use Rattle.sva_step.specs.declared.steps.Step.{Step}
use Rattle.sva_model.specs.State.{PasidRule, World}
use Rattle.sva_model.specs.Acts.{Act, act, sends, cookies_of}
use Rattle.sva_model.specs.Acts.Act.{NewSpace, DropSpace, Map, Unmap, NewBinding, NewJob, Hold, LetGo, AtEndpoint}
use Rattle.sva_model.specs.Steps.{world_after}
use Rattle.sva_model.specs.Claims.{Fits}
use Rattle.sva_laws.proofs.Invariant.{Invariant}
use Rattle.sva_laws.proofs.Keeps.{Legal}
use Rattle.sva_refinement.proofs.Granted.{IsGranted, always_has}

-- how far the numbers are given out
pub record AreWithin (first spaces bindings messages cookies : ℕ) : Type 0 where
  pub spaces_end : first + spaces ≤ 2 ^ 63
  pub bindings_end : first + bindings ≤ 2 ^ 63
  pub messages_end : first + messages ≤ 2 ^ 63
  pub cookies_end : first + cookies ≤ 2 ^ 63

abbrev pub HasNumbers : World → Type 0
HasNumbers w = AreWithin w.config.first w.spaces w.bindings w.messages w.cookies

one_more : (limit a b : ℕ) → a + b + 1 ≤ limit → a + suc b ≤ limit
one_more limit a b h = omega (arith, h)

some_more : (limit a b c : ℕ) → a + b ≤ limit → (0 < c → a + b + c ≤ limit) → a + (b + c) ≤ limit
some_more limit a b zero h k = omega (arith, h)
some_more limit a b (suc c) h k = let m = k (omega arith) in omega (arith, m)

more : (limit a b c : ℕ) → a + b + c ≤ limit → a + (b + c) ≤ limit
more limit a b c h = omega (arith, h)

numbers_kept : (w : World) (a : Act) → Legal w a → IsGranted w a → Invariant w → HasNumbers w → HasNumbers (act w a)
numbers_kept w NewSpace l g i h =
    record {
      spaces_end = one_more (2 ^ 63) w.config.first w.spaces g;
      bindings_end = h.bindings_end;
      messages_end = h.messages_end;
      cookies_end =
          h.cookies_end;
    }
numbers_kept w (NewBinding e) l g i h =
    record {
      spaces_end = h.spaces_end;
      bindings_end = one_more (2 ^ 63) w.config.first w.bindings g;
      messages_end = h.messages_end;
      cookies_end =
          h.cookies_end;
    }
numbers_kept w (Unmap s q count order) l g i h =
    record {
      spaces_end = h.spaces_end;
      bindings_end = h.bindings_end;
      messages_end = h.messages_end;
      cookies_end =
          more (2 ^ 63) w.config.first w.cookies _ g;
    }
numbers_kept w (AtEndpoint e o) l g i h =
    record {
      spaces_end = h.spaces_end;
      bindings_end = h.bindings_end;
      messages_end = some_more (2 ^ 63) w.config.first w.messages (sends o) h.messages_end g.messages;
      cookies_end = some_more (2 ^ 63) w.config.first w.cookies (cookies_of o) h.cookies_end g.cookies;
    }
numbers_kept w (DropSpace s) l g i h = h
numbers_kept w (Map s q f x) l g i h = h
numbers_kept w (NewJob e y) l g i h = h
numbers_kept w (Hold x j) l g i h = h
numbers_kept w (LetGo x) l g i h = h

pub always_numbers : (rule : PasidRule) (config : Config) (steps : List Step) → Fits config → HasNumbers (world_after rule config steps)
always_numbers rule config steps fits =
    always_has HasNumbers numbers_kept rule config steps
    (record { spaces_end = first; bindings_end = first; messages_end = first; cookies_end = first })
  where
    none : (limit a : ℕ) → a ≤ limit → a + 0 ≤ limit
    none limit a h = omega (arith, h)

    first : config.first + 0 ≤ 2 ^ 63
    first = none (2 ^ 63) config.first fits.first_number
