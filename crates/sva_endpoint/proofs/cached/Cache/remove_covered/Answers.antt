use Rattle.std.proofs.Common.{rules, ◌≡◌, ℕ, ◌∙◌, ap, arith}
use Rattle.std.specs.List.{remove_range}
use Rattle.sva_endpoint.specs.Cache.{place_of}
use Rattle.sva_endpoint.specs.Coverage.{first_key, end_key}
use Rattle.sva_endpoint.proofs.Runs.{run_rises, run_within, run_cut}
use Rattle.sva_endpoint.proofs.cached.Cache.remove_covered.Goals as goal

pub drain-requires : goal.drain-requires
drain-requires c =
    let from : c.place_of-from.result ≡ place_of c.args.self.now (first_key c.args.invalidation.now) =
    c.place_of-from.ensures ∙ ap (place_of c.args.self.now) c.first.ensures in
    let end : c.place_of-end.result ≡ place_of c.args.self.now (end_key c.args.invalidation.now) =
    c.place_of-end.ensures ∙ ap (place_of c.args.self.now) c.end.ensures in
    let rises = run_rises c.self.inside.entries.items c.args.self.now c.self.invariant.0 c.self.view_is c.args.invalidation.now in
    let within = run_within c.self.inside.entries.items c.args.self.now c.self.invariant.0 c.self.view_is c.args.invalidation.now in
    (search rules, (search rules, (tt, (omega arith, omega arith))))

pub invariant_of-self : goal.invariant_of-self
invariant_of-self c =
    let from : c.place_of-from.result ≡ place_of c.args.self.now (first_key c.args.invalidation.now) =
    c.place_of-from.ensures ∙ ap (place_of c.args.self.now) c.first.ensures in
    let end : c.place_of-end.result ≡ place_of c.args.self.now (end_key c.args.invalidation.now) =
    c.place_of-end.ensures ∙ ap (place_of c.args.self.now) c.end.ensures in
    let left = run_cut c.self.inside.entries.items c.args.self.now c.self.invariant.0 c.self.view_is c.args.invalidation.now c.drop-drain.new.self.0.items
    (c.drop-drain.ensures (search rules) ∙ c.drain.ensures.kept ∙ ap (λ (n : ℕ). remove_range c.self.inside.entries.items n c.place_of-end.result) from
    ∙ ap (remove_range c.self.inside.entries.items (place_of c.args.self.now (first_key c.args.invalidation.now))) end) in
    let long = c.self.invariant.1 in
    (left.0, omega (arith, left.1))

pub returns : goal.returns
returns c =
    let from : c.place_of-from.result ≡ place_of c.args.self.now (first_key c.args.invalidation.now) =
    c.place_of-from.ensures ∙ ap (place_of c.args.self.now) c.first.ensures in
    let end : c.place_of-end.result ≡ place_of c.args.self.now (end_key c.args.invalidation.now) =
    c.place_of-end.ensures ∙ ap (place_of c.args.self.now) c.end.ensures in
    (run_cut c.self.inside.entries.items c.args.self.now c.self.invariant.0 c.self.view_is c.args.invalidation.now c.drop-drain.new.self.0.items
    (c.drop-drain.ensures (search rules) ∙ c.drain.ensures.kept ∙ ap (λ (n : ℕ). remove_range c.self.inside.entries.items n c.place_of-end.result) from
    ∙ ap (remove_range c.self.inside.entries.items (place_of c.args.self.now (first_key c.args.invalidation.now))) end)).2
