use Rattle.std.proofs.Common.{◌≡◌, ◌∙◌, ◌+◌, ◌<◌, ℕ, List, [], ◌∷◌, ◌++◌, inl, refl, sym, ap, subst, arith}
use Rattle.std.specs.Global.{Global}
use Rattle.fit_record.specs.declared.message.Record.{Record}
use Rattle.fit_record.specs.declared.message.Record.TheVariants.{Values as Data}
use Rattle.fit_decode.specs.Answers.{LookedAhead, MessagesFollow, NextMessage}
use Rattle.test_suite.proofs.skipped.find_messages.Goals as goal

pub messages-init : goal.messages-init
messages-init c =
    let begun = c.look_ahead-ahead.ensures in
    let none = ap (λ (a : LookedAhead). a.used) begun in
    record {
      is = begun ∙ ap (λ (n : ℕ). record { fed = c.args.decoder.now; piece = c.args.bytes.now; used = n }) (sym none);
      follow = ([], inl (none, refl));
    }

pub messages-preserved : goal.messages-preserved
messages-preserved c =
    let some : 0 < c.next.result = omega (arith, c.if-next-eq0.false) in
    let now = c.messages.invariant.is in
    let all = c.next.ensures.used in
    let next = subst (λ (a : LookedAhead). NextMessage Global a c.next.result) now (c.next.ensures.message some) in
    let (records, follow) = c.messages.invariant.follow in
    let used = ap (λ (a : LookedAhead). a.used) all in
    record {
      is = all ∙ ap (λ (a : LookedAhead). record a { used = a.used + c.next.result }) now
          ∙ ap (λ (n : ℕ). record { fed = c.args.decoder.now; piece = c.args.bytes.now; used = n }) (sym used);
      follow = (
        records ++ Data next.0 ∷ [],
        subst (λ n. MessagesFollow Global c.args.decoder.now c.args.bytes.now n (records ++ Data next.0 ∷ [])) (sym used) (next.1 records follow).0,
      );
    }

pub returns : goal.returns
returns c =
    subst (λ n. (records : List (Record Global)) × MessagesFollow Global c.args.decoder.now c.args.bytes.now n records) (sym c.used-2.ensures)
    c.messages.invariant.follow

pub returns-then-next-eq0 : goal.returns-then-next-eq0
returns-then-next-eq0 c =
    let stays : c.messages.ahead.used ≡ c.used.result =
    omega (arith, c.used.ensures, ap (λ (a : LookedAhead). a.used) c.next.ensures.used, c.if-next-eq0.true) in
    subst (λ n. (records : List (Record Global)) × MessagesFollow Global c.args.decoder.now c.args.bytes.now n records) stays c.messages.invariant.follow
