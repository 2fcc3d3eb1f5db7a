use Rattle.fit_encode.proofs.Common.{◌∙◌, ◌∷◌, ◌++◌, [], sym, ap, arith, empty_environment, learn_all, Data}
use Rattle.std.specs.Global.{Global}
use Rattle.fit_record.specs.MessageBytes.{message_in}
use Rattle.fit_encode.proofs.Kept.{MayFollow, kept-more, long-now, long-on}
use Rattle.fit_encode.proofs.spelled.SpelledRecords.push_message.Goals as goal

pub invariant_of-self : goal.invariant_of-self
invariant_of-self c =
    let s = c.self.inside in
    let r = Data (message_in c.open-message.result) in
    let may : MayFollow s.records.items c.args.env.now r =
    (c.requires.known ∙ ap (learn_all {A = Global} empty_environment) (sym c.self.view_is), c.open-message.ensures.spelled.0) in
    rw c.add_to.ensures (long-on s.bytes.items s.count s.too_long s.records.items c.args.env.now r c.self.invariant c.if-self.true may)

pub invariant_of-self-then-more-len : goal.invariant_of-self-then-more-len
invariant_of-self-then-more-len c =
    let s = c.self.inside in
    let r = Data (message_in c.open-message.result) in
    let may : MayFollow s.records.items c.args.env.now r =
    (c.requires.known ∙ ap (learn_all {A = Global} empty_environment) (sym c.self.view_is), c.open-message.ensures.spelled.0) in
    let short = (c.self.invariant.all c.if-self.false).short in
    rw c.add_to-then-more-len.ensures
    (long-now s.bytes.items c.args.bytes.now s.count s.too_long s.records.items c.args.env.now r
    c.self.invariant c.if-self.false may c.open-message.ensures.spelled.1 (omega (arith, short, c.len.ensures, c.if-more-len.true)))

pub invariant_of-self-2 : goal.invariant_of-self-2
invariant_of-self-2 c =
    let s = c.self.inside in
    let r = Data (message_in c.open-message.result) in
    let may : MayFollow s.records.items c.args.env.now r =
    (c.requires.known ∙ ap (learn_all {A = Global} empty_environment) (sym c.self.view_is), c.open-message.ensures.spelled.0) in
    let short = (c.self.invariant.all c.if-self.false).short in
    rw (c.add_to-2.ensures, c.in_ok-extend_from_slice.ensures.items)
    (kept-more s.bytes.items c.args.bytes.now s.count s.too_long s.records.items c.args.env.now r
    c.self.invariant c.if-self.false may c.open-message.ensures.spelled.1 (omega (arith, short, c.len.ensures, c.if-more-len.false)))

pub returns-then-self-clause-ok : goal.returns-then-self-clause-ok
returns-then-self-clause-ok c v is =
    c.add_to.ensures ∙ ap (λ w. c.self.inside.records.items ++ (Data w ∷ [])) (c.open-message.ensures.read v is)
    ∙ ap (λ rs. rs ++ (Data v ∷ [])) c.self.view_is

pub returns-then-more-len-clause-ok : goal.returns-then-more-len-clause-ok
returns-then-more-len-clause-ok c v is =
    c.add_to-then-more-len.ensures ∙ ap (λ w. c.self.inside.records.items ++ (Data w ∷ [])) (c.open-message.ensures.read v is)
    ∙ ap (λ rs. rs ++ (Data v ∷ [])) c.self.view_is

pub returns-clause-ok : goal.returns-clause-ok
returns-clause-ok c v is =
    c.add_to-2.ensures ∙ ap (λ w. c.self.inside.records.items ++ (Data w ∷ [])) (c.open-message.ensures.read v is)
    ∙ ap (λ rs. rs ++ (Data v ∷ [])) c.self.view_is
