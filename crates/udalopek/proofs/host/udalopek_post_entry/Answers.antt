use Rattle.std.proofs.Common.{ap, ◌∙◌}
use Rattle.table.specs.declared.Entry.{Entry}
use Rattle.pair.specs.Answer.{status_number}
use Rattle.pair.specs.Host.{posted, post_entries}
use Rattle.abi_spec.specs.Pair.{pair_of}
use Rattle.udalopek_spec.proofs.Steps.{second, many}
use Rattle.udalopek_spec.proofs.Done.{done, undone, posted-words, unposted-words}
use Rattle.udalopek_spec.specs.Left.{entries_put}
use Rattle.udalopek_spec.specs.Host.{post_number, post_table}
use Rattle.udalopek.proofs.host.udalopek_post_entry.Goals as goal

pub returns-else-number-eq0 : goal.returns-else-number-eq0
unfolding post_number post_table posted
returns-else-number-eq0 c =
    let A = c.args in
    let w = c.in-Some.ensures.cases in
    let l = many A.pair.now w.long in
    let q = c.said.ensures ∙ ap pair_of w.same in
    let x : Entry = record { number = A.number; offset = A.offset; length = A.length } in
    let n = c.from-number.ensures ∙ ap (λ o. status_number o.status) (c.post_entry-posted.ensures.value ∙ ap (λ p. posted p x) q) in (
      n ∙ second _ 34 _ l,
      w.same ∙ unposted-words A.pair.now l _ (undone _ _ n c.if-number-eq0.false),
      c.post_entry-posted.ensures.entries_after ∙ ap (λ p. post_entries p A.entries.now x) q ∙ second _ _ _ l,
    )

pub returns-then-number-eq0 : goal.returns-then-number-eq0
unfolding post_number post_table posted
returns-then-number-eq0 c =
    let A = c.args in
    let w = c.in-Some.ensures.cases in
    let l = many A.pair.now w.long in
    let q = c.said.ensures ∙ ap pair_of w.same in
    let x : Entry = record { number = A.number; offset = A.offset; length = A.length } in
    let e = c.post_entry-posted.ensures.value ∙ ap (λ p. posted p x) q in
    let n = c.from-number.ensures ∙ ap (λ o. status_number o.status) e in (
      n ∙ second _ 34 _ l,
      posted-words A.pair.now l _ (done _ _ n c.if-number-eq0.true) _ (c.put_entries.ensures ∙ (λ i. entries_put (w.same i) (e i).pair.entries)),
      c.post_entry-posted.ensures.entries_after ∙ ap (λ p. post_entries p A.entries.now x) q ∙ second _ _ _ l,
    )
