use Rattle.std.proofs.Common.{◌∙◌, sym, subst, rules}
use Rattle.sva_grammar.specs.Grammar.{words_of}
use Rattle.sva_grammar.proofs.LetterLemmas.{begins_with_a, begins_with_b, begins_with_d, begins_with_e}
use Rattle.sva_grammar.proofs.LetterLemmas.{begins_with_f, begins_with_l, begins_with_m}
use Rattle.sva_grammar.proofs.LetterLemmas.{IsOther, begins_with_none, begins_with_p, begins_with_q, begins_with_r}
use Rattle.sva_grammar.proofs.LetterLemmas.{begins_with_s, begins_with_t, begins_with_u}
use Rattle.sva_grammar.proofs.letters.step_in.Goals as goal

pub returns-in-97 : goal.returns-in-97
returns-in-97 c =
    c.step_with_a.ensures ∙ begins_with_a (words_of c.args.words.now) (sym c.letter.ensures ∙ c.in-97.is)

pub returns-in-98 : goal.returns-in-98
returns-in-98 c =
    c.step_with_b.ensures ∙ begins_with_b (words_of c.args.words.now) (sym c.letter.ensures ∙ c.in-98.is)

pub returns-in-100 : goal.returns-in-100
returns-in-100 c =
    c.step_with_d.ensures ∙ begins_with_d (words_of c.args.words.now) (sym c.letter.ensures ∙ c.in-100.is)

pub returns-in-101 : goal.returns-in-101
returns-in-101 c =
    c.step_with_e.ensures ∙ begins_with_e (words_of c.args.words.now) (sym c.letter.ensures ∙ c.in-101.is)

pub returns-in-102 : goal.returns-in-102
returns-in-102 c =
    c.step_with_f.ensures ∙ begins_with_f (words_of c.args.words.now) (sym c.letter.ensures ∙ c.in-102.is)

pub returns-in-108 : goal.returns-in-108
returns-in-108 c =
    c.step_with_l.ensures ∙ begins_with_l (words_of c.args.words.now) (sym c.letter.ensures ∙ c.in-108.is)

pub returns-in-109 : goal.returns-in-109
returns-in-109 c =
    c.step_with_m.ensures ∙ begins_with_m (words_of c.args.words.now) (sym c.letter.ensures ∙ c.in-109.is)

pub returns-in-112 : goal.returns-in-112
returns-in-112 c =
    c.step_with_p.ensures ∙ begins_with_p (words_of c.args.words.now) (sym c.letter.ensures ∙ c.in-112.is)

pub returns-in-113 : goal.returns-in-113
returns-in-113 c =
    c.step_with_q.ensures ∙ begins_with_q (words_of c.args.words.now) (sym c.letter.ensures ∙ c.in-113.is)

pub returns-in-114 : goal.returns-in-114
returns-in-114 c =
    c.step_with_r.ensures ∙ begins_with_r (words_of c.args.words.now) (sym c.letter.ensures ∙ c.in-114.is)

pub returns-in-115 : goal.returns-in-115
returns-in-115 c =
    c.step_with_s.ensures ∙ begins_with_s (words_of c.args.words.now) (sym c.letter.ensures ∙ c.in-115.is)

pub returns-in-116 : goal.returns-in-116
returns-in-116 c =
    c.step_with_t.ensures ∙ begins_with_t (words_of c.args.words.now) (sym c.letter.ensures ∙ c.in-116.is)

pub returns-in-117 : goal.returns-in-117
returns-in-117 c =
    c.step_with_u.ensures ∙ begins_with_u (words_of c.args.words.now) (sym c.letter.ensures ∙ c.in-117.is)

pub returns-in_default : goal.returns-in_default
returns-in_default c =
    begins_with_none (words_of c.args.words.now) (subst IsOther c.letter.ensures (record {
      a = search rules;
      b = search rules;
      d = search rules;
      e = search rules;
      f = search rules;
      l = search rules;
      m = search rules;
      p = search rules;
      q = search rules;
      r = search rules;
      s = search rules;
      t = search rules;
      u = search rules;
    }))
