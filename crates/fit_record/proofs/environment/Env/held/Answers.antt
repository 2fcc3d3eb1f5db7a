use Rattle.fit_record.proofs.Common.{◌≡◌, ◌+◌, None, length, take, sym, sum_by_more, ap, ◌∙◌, arith, sum_by, option_map_or, take_all, entry_count}
use Rattle.fit_record.proofs.environment.Env.held.Goals as goal

pub returns-clause-size : goal.returns-clause-size
returns-clause-size g c =
    let places = c.args.self.now.places in
    let sixteen : length places ≡ 16 = c.loop-local.invariant.sixteen (omega (arith, c.loop-local-test.false)) in
    let all = ap (sum_by (λ p. option_map_or (λ q. entry_count q.definition) p 0))
    (take_all c.loop-local.local places (omega (arith, sixteen, c.loop-local-test.false))) in
    let described : length c.self.inside.described.entries ≡ length c.args.self.now.described = ap (λ e. length e.described) c.self.view_is in
    omega (arith, c.loop-local.invariant.counted ∙ all, c.len.ensures.len, described)

pub entries_at-entries-requires : goal.entries_at-entries-requires
entries_at-entries-requires g c = assumption

pub loop-local-preserved : goal.loop-local-preserved
loop-local-preserved g c =
    let places = c.args.self.now.places in
    let sixteen = c.entries_at-entries.ensures.places in
    record {
      counted = ap (λ n. n + c.entries_at-entries.result) c.loop-local.invariant.counted
          ∙ ap (λ n. sum_by (λ p. option_map_or (λ q. entry_count q.definition) p 0) (take c.loop-local.local places) + n) c.entries_at-entries.ensures.count
          ∙ sym (sum_by_more (λ p. option_map_or (λ q. entry_count q.definition) p 0) places c.loop-local.local None
          (omega (arith, sixteen, c.loop-local-test.true)));
      small = omega (arith, c.loop-local.invariant.small, c.entries_at-entries.ensures.small);
      sixteen = λ _. sixteen;
    }
