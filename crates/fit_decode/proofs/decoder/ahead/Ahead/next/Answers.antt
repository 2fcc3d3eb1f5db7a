use Rattle.fit_decode.proofs.Common.{◌≡◌, ◌++◌, ℕ, subst, take, drop, None, IsAny, MayLackMemoryIn}
use Rattle.std.specs.Global.{Global}
use Rattle.fit_decode.specs.Answers.{LookedAhead, MessageFollows, NextMessage}
use Rattle.fit_decode.proofs.LookingAhead.{follow_within, seen_ahead, seen_message, seen_completes, seen_whole}
use Rattle.fit_decode.proofs.decoder.ahead.Ahead.next.Goals as goal

pub split_at-requires : goal.split_at-requires
split_at-requires c =
    let a = c.self.inside in
    follow_within a.decoder.now a.piece.now a.used c.self.invariant.records c.self.invariant.follow

pub invariant_of-self : goal.invariant_of-self
invariant_of-self c =
    let a = c.self.inside in
    let s = c.size_ahead-size in
    seen_ahead c.decoder.inside c.decoder.invariant a.decoder.now c.decoder.view_is a.piece.now a.used a.room c.self.invariant s.result
    c.split_at.result.1.now c.split_at.ensures.back s.ensures.within s.ensures.message

pub returns-clause-message : goal.returns-clause-message
returns-clause-message c = λ some.
    let a = c.self.inside in
    let s = c.size_ahead-size in
    subst (λ (o : LookedAhead). NextMessage Global o s.result) c.self.view_is
    (seen_message c.decoder.inside c.decoder.invariant a.decoder.now c.decoder.view_is a.piece.now a.used a.room c.self.invariant s.result
    c.split_at.result.1.now c.split_at.ensures.back s.ensures.within s.ensures.message some)

pub returns-clause-completes : goal.returns-clause-completes
returns-clause-completes c = λ some.
    let a = c.self.inside in
    let s = c.size_ahead-size in
    subst (λ (o : LookedAhead). MayLackMemoryIn Global IsAny o.fed.bytes o.piece) c.self.view_is
    (seen_completes c.decoder.inside c.decoder.invariant a.decoder.now c.decoder.view_is a.piece.now a.used a.room c.self.invariant s.result
    c.split_at.result.1.now c.split_at.ensures.back s.ensures.within s.ensures.message some)

pub returns-clause-whole : goal.returns-clause-whole
returns-clause-whole c =
    let a = c.self.inside in
    let s = c.size_ahead-size in
    subst (λ (o : LookedAhead). o.fed.refusal ≡ None → (n : ℕ) → MessageFollows Global (o.fed.bytes ++ take o.used o.piece) (drop o.used o.piece) n
    → s.result ≡ n) c.self.view_is
    (seen_whole c.decoder.inside c.decoder.invariant a.decoder.now c.decoder.view_is a.piece.now a.used a.room c.self.invariant s.result
    c.split_at.result.1.now c.split_at.ensures.back s.ensures.within s.ensures.message s.ensures.whole)
