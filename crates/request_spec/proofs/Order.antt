-- The order of the request checks.
use Prim.Native.Nat.{ℕ}
use mathlib.Core.Path.{◌≡◌, refl, sym, subst, ◌∙◌}
use mathlib.Core.Bool.{Bool, true, false, cond}
use mathlib.Core.Logic.{inl, inr}
use native.Mathlib.Omega.{arith}
use lib.ListN.{get_or}
use Rattle.std.proofs.lemmas.Bool.Decides.{nat_tests}
use Rattle.pair.specs.declared.Setup.{Setup}
use Rattle.pair.specs.declared.OpenMessage.{OpenMessage}
use Rattle.request_spec.specs.declared.Packet.{Packet}
use Rattle.request_spec.specs.Verdict.{out_of_sequence, not_enabled, pad_early, over_limit, none_waiting, entry_outside, key_fails, lengths_off, current, request_check, expected_check}
use Rattle.request_spec.specs.Claims.{Place, Served, Enabled, IsCurrent, Tells, Judged, JudgedBy, Order}
use Rattle.request_spec.proofs.Conditions.{current-tested, sequence-tested, enabled-tested, pad-tested, limit-tested, entry-tested, inside-tested, key-tested, lengths-tested}

-- what is on is served
pub served : (s : Setup) (kind : ℕ) → Enabled s kind → Served kind
served s kind (inl x) = inl (inl x.0)
served s kind (inr (inl x)) = inl (inr x.0)
served s kind (inr (inr (inl x))) = inr (inl x.0)
served s kind (inr (inr (inr x))) = inr (inr x.0)

-- a packet is of one message
pub current-one : (opened : OpenMessage) (p : Packet) (m : OpenMessage) → Place p.place → IsCurrent opened p m → m ≡ current opened p
current-one opened p m P C = go P
  where
    D : IsCurrent opened p (current opened p)
    D = current-tested opened p P

    go : Place p.place → m ≡ current opened p
    go (inl b) = C.own b ∙ sym (D.own b)
    go (inr g) = C.old g ∙ sym (D.old g)

-- a condition that does not hold fails its test
fails : (b : Bool) (Good : Type 0) → (b ≡ false → Good) → (Good → ⊥) → b ≡ true
fails true Good f n = refl
fails false Good f n = absurd (n (f refl))

-- the first check that fails, by what each test says of its condition
module _ (A B C D E F G H : Type 0) (a b c d e f g h : Bool) (sa : Tells a A) (sb : Tells b B) (sc : Tells c C) (sd : Tells d D) (se : Tells e E)
    (sf : Tells f F) (sg : B → Tells g G) (sh : B → Tells h H) where
  abbrev first : ℕ
  first = cond a 1 (cond b 2 (cond c 3 (cond d 4 (cond e 5 (cond f 8 (cond g 6 (cond h 7 0)))))))

  judged : Judged A B C D E F G H first
  judged =
      record {
        none = (
          λ q. (
            sa.0 (grind (arith, nat_tests)),
            sb.0 (grind (arith, nat_tests)),
            sc.0 (grind (arith, nat_tests)),
            sd.0 (grind (arith, nat_tests)),
            se.0 (grind (arith, nat_tests)),
            sf.0 (grind (arith, nat_tests)),
            (sg (sb.0 (grind (arith, nat_tests)))).0 (grind (arith, nat_tests)),
            (sh (sb.0 (grind (arith, nat_tests)))).0 (grind (arith, nat_tests)),
          ),
          λ t. rw (sa.1 t.0, sb.1 t.1, sc.1 t.2, sd.1 t.3, se.1 t.4, sf.1 t.5, (sg t.1).1 t.6, (sh t.1).1 t.7),
        );
        sequence = (λ q x. let z = sa.1 x in absurd (grind (arith, nat_tests)), λ t. rw (fails a A sa.0 t));
        function = (
          λ q. (
            sa.0 (grind (arith, nat_tests)),
            λ x. let z = sb.1 x in absurd (grind (arith, nat_tests)),
          ),
          λ t. rw (sa.1 t.0, fails b B sb.0 t.1),
        );
        pad = (
          λ q. (
            sa.0 (grind (arith, nat_tests)),
            sb.0 (grind (arith, nat_tests)),
            λ x. let z = sc.1 x in absurd (grind (arith, nat_tests)),
          ),
          λ t. rw (sa.1 t.0, sb.1 t.1, fails c C sc.0 t.2),
        );
        limit = (
          λ q. (
            sa.0 (grind (arith, nat_tests)),
            sb.0 (grind (arith, nat_tests)),
            sc.0 (grind (arith, nat_tests)),
            λ x. let z = sd.1 x in absurd (grind (arith, nat_tests)),
          ),
          λ t. rw (sa.1 t.0, sb.1 t.1, sc.1 t.2, fails d D sd.0 t.3),
        );
        waiting = (
          λ q. (
            sa.0 (grind (arith, nat_tests)),
            sb.0 (grind (arith, nat_tests)),
            sc.0 (grind (arith, nat_tests)),
            sd.0 (grind (arith, nat_tests)),
            λ x. let z = se.1 x in absurd (grind (arith, nat_tests)),
          ),
          λ t. rw (sa.1 t.0, sb.1 t.1, sc.1 t.2, sd.1 t.3, fails e E se.0 t.4),
        );
        inside = (
          λ q. (
            sa.0 (grind (arith, nat_tests)),
            sb.0 (grind (arith, nat_tests)),
            sc.0 (grind (arith, nat_tests)),
            sd.0 (grind (arith, nat_tests)),
            se.0 (grind (arith, nat_tests)),
            λ x. let z = sf.1 x in absurd (grind (arith, nat_tests)),
          ),
          λ t. rw (sa.1 t.0, sb.1 t.1, sc.1 t.2, sd.1 t.3, se.1 t.4, fails f F sf.0 t.5),
        );
        key = (
          λ q. (
            sa.0 (grind (arith, nat_tests)),
            sb.0 (grind (arith, nat_tests)),
            sc.0 (grind (arith, nat_tests)),
            sd.0 (grind (arith, nat_tests)),
            se.0 (grind (arith, nat_tests)),
            sf.0 (grind (arith, nat_tests)),
            λ x. let z = (sg (sb.0 (grind (arith, nat_tests)))).1 x in absurd (grind (arith, nat_tests)),
          ),
          λ t. rw (sa.1 t.0, sb.1 t.1, sc.1 t.2, sd.1 t.3, se.1 t.4, sf.1 t.5, fails g G (sg t.1).0 t.6),
        );
        lengths = (
          λ q. (
            sa.0 (grind (arith, nat_tests)),
            sb.0 (grind (arith, nat_tests)),
            sc.0 (grind (arith, nat_tests)),
            sd.0 (grind (arith, nat_tests)),
            se.0 (grind (arith, nat_tests)),
            sf.0 (grind (arith, nat_tests)),
            (sg (sb.0 (grind (arith, nat_tests)))).0 (grind (arith, nat_tests)),
            λ x. let z = (sh (sb.0 (grind (arith, nat_tests)))).1 x in absurd (grind (arith, nat_tests)),
          ),
          λ t. rw (sa.1 t.0, sb.1 t.1, sc.1 t.2, sd.1 t.3, se.1 t.4, sf.1 t.5, (sg t.1).1 t.6, fails h H (sh t.1).0 t.7),
        );
        most = grind (arith, nat_tests);
      }

pub order : Order
unfolding expected_check request_check
order s opened p m count entry region P C =
    subst (λ x. JudgedBy s opened p x count entry region (expected_check s opened p count entry region)) (sym (current-one opened p m P C))
    (judged _ _ _ _ _ _ _ _ (out_of_sequence opened.kind p.kind p.place) (not_enabled s p.kind) (pad_early p.place p.pad)
    (over_limit p.operands.length) (none_waiting p.kind p.place p.operands.immediate opened.kind count)
    (entry_outside p.kind p.operands.immediate entry s.memory) (key_fails s.memory p.kind (current opened p) region)
    (lengths_off p s.pmtu (current opened p) (get_or entry 2 0))
    (sequence-tested opened.kind p.kind p.place P) (enabled-tested s p.kind) (pad-tested p.place p.pad P)
    (limit-tested p.operands.length) (entry-tested p.kind p.place p.operands.immediate opened.kind count)
    (inside-tested p.kind p.operands.immediate entry s.memory)
    (λ B. key-tested p.kind s.memory (current opened p) region (served s p.kind B))
    (λ B. lengths-tested p s.pmtu (current opened p) (get_or entry 2 0) P (served s p.kind B)))
