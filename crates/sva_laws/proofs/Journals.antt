-- A legal journal's front is legal, and a legal one with an entry more is legal exactly where the entry's answer is the step's.
use Rattle.std.proofs.Common.{◌≡◌, refl, sym}
use Rattle.std.specs.Prelude.{◌↔◌, List, [], ◌∷◌, ◌++◌, map}
use Rattle.sva_step.specs.declared.limits.Config.{Config}
use Rattle.sva_model.specs.State.{PasidRule, World, opened}
use Rattle.sva_model.specs.Steps.{Reply, reply, replies, next, run}
use Rattle.sva_model.specs.Journal.{Entry, IsLegal, steps_of, world_of}

-- the answers at a world are those that the journal says
abbrev Says : World → List Entry → Type 0
Says w journal = replies w (steps_of journal) ≡ map (λ e. e.reply) journal

head_same : (a b : Reply) (xs ys : List Reply) → a ∷ xs ≡ b ∷ ys → a ≡ b
head_same a b xs ys h = cc

tail_same : (a b : Reply) (xs ys : List Reply) → a ∷ xs ≡ b ∷ ys → xs ≡ ys
tail_same a b xs ys h = cc

both_same : (a b : Reply) (xs ys : List Reply) → a ≡ b → xs ≡ ys → a ∷ xs ≡ b ∷ ys
both_same a b xs ys h k = cc

front_says : (journal rest : List Entry) (w : World) → Says w (journal ++ rest) → Says w journal
unfolding replies
front_says [] rest w h = refl
front_says (e ∷ journal) rest w h =
    both_same (reply w e.step) e.reply (replies (next w e.step) (steps_of journal)) (map (λ x. x.reply) journal)
    (head_same (reply w e.step) e.reply (replies (next w e.step) (steps_of (journal ++ rest))) (map (λ x. x.reply) (journal ++ rest)) h)
    (front_says journal rest (next w e.step)
    (tail_same (reply w e.step) e.reply (replies (next w e.step) (steps_of (journal ++ rest))) (map (λ x. x.reply) (journal ++ rest)) h))

last_says : (journal : List Entry) (e : Entry) (w : World) → Says w (journal ++ e ∷ []) → e.reply ≡ reply (run w (steps_of journal)) e.step
unfolding replies
last_says [] e w h = sym (head_same (reply w e.step) e.reply [] [] h)
last_says (d ∷ journal) e w h =
    last_says journal e (next w d.step)
    (tail_same (reply w d.step) d.reply (replies (next w d.step) (steps_of (journal ++ e ∷ []))) (map (λ x. x.reply) (journal ++ e ∷ [])) h)

more_says : (journal : List Entry) (e : Entry) (w : World) → Says w journal → e.reply ≡ reply (run w (steps_of journal)) e.step → Says w (journal ++ e ∷ [])
unfolding replies
more_says [] e w h k = both_same (reply w e.step) e.reply [] [] (sym k) refl
more_says (d ∷ journal) e w h k =
    both_same (reply w d.step) d.reply (replies (next w d.step) (steps_of (journal ++ e ∷ []))) (map (λ x. x.reply) (journal ++ e ∷ []))
    (head_same (reply w d.step) d.reply (replies (next w d.step) (steps_of journal)) (map (λ x. x.reply) journal) h)
    (more_says journal e (next w d.step) (tail_same (reply w d.step) d.reply (replies (next w d.step) (steps_of journal)) (map (λ x. x.reply) journal) h) k)

pub front_legal : (rule : PasidRule) (config : Config) (journal rest : List Entry) → IsLegal rule config (journal ++ rest) → IsLegal rule config journal
front_legal rule config journal rest h = record { fits = h.fits; answers = front_says journal rest (opened rule config) h.answers }

pub more_legal : (rule : PasidRule) (config : Config) (journal : List Entry) (e : Entry) → IsLegal rule config journal
    → IsLegal rule config (journal ++ e ∷ []) ↔ (e.reply ≡ reply (world_of rule config journal) e.step)
more_legal rule config journal e legal = (
  (λ h. last_says journal e (opened rule config) h.answers),
  (λ k. record { fits = legal.fits; answers = more_says journal e (opened rule config) legal.answers k }),
)
