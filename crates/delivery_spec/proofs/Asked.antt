-- What is asked, in plain numbers: both ways.
use Prim.Native.Nat.{ℕ, zero, suc, ◌+◌, ◌^◌, ◌≤◌, ◌<◌}
use mathlib.Core.Path.{◌≡◌, refl, ap, subst}
use mathlib.Core.Bool.{Bool, true, false, true≢false, not, ◌||◌}
use mathlib.Core.List.{List, [], ◌∷◌, ◌++◌}
use mathlib.Core.Logic.{◌⊎◌, inl, inr}
use native.Mathlib.Omega.{arith}
use lib.Dec.{leb, ltb, eqb}
use lib.ListN.{length}
use borrow.Author.Tests.{eqb-true, eq-eqb, ne_eqb, eqb-false, le-ltb, ltb-false, lt-leb, leb-false}
use Rattle.lemmas.proofs.Tests.{or_left, or_right, neither}
use Rattle.header.proofs.Keys.{matches, matches-only}
use Rattle.table.specs.declared.Entry.{Entry}
use Rattle.table.specs.declared.Region.{Region}
use Rattle.pair.specs.declared.Setup.{Setup}
use Rattle.cut_spec.specs.Claims.{InLimit, RequestWidths}
use Rattle.cut_spec.specs.declared.Request.{Request}
use Rattle.cut_spec.specs.declared.Request.TheVariants.{Send, SendImmediate, Write, WriteImmediate, Read, CmpSwap, FetchAdd}
use Rattle.delivery_spec.specs.Stream.{Message, Slot, number_along}
use Rattle.delivery_spec.specs.Plain.{Plain, Call, AllInside, hand_refused, next_refused, post_refused, plain_step, plain}
use Rattle.delivery_spec.specs.Plain.Call.{Hand, Next, Post}
use Rattle.delivery_spec.specs.Demand.{LiesInRegion, Allowed, Addressed, Permitted, All, AtLeast, LongEnough, Handed, Posted, CallPermitted, AllCallsPermitted}
use Rattle.delivery_spec.specs.Asked.{Says, Among, NearIs, HandTaken, NextTaken, PostTaken, TakenIs, HandedIs, RefusedFree, IsSend, NoSendLonger, PostedIs, WaitingIs, CallsAre, CallIs, Comes, InRegion, MayBe, PermittedIs, StreamIs, AskedIs, AgreeIs}

pub near-is : NearIs
near-is x d = (
  (
    (λ n. omega (arith, n.behind)),
    (λ h. record { behind = omega arith; ahead = omega arith }),
  ),
  (
    (λ n. omega (arith, n.ahead)),
    (λ h. record { behind = omega arith; ahead = omega arith }),
  ),
)

-- which calls are taken
unnot-false : (b : Bool) → not b ≡ false → b ≡ true
unnot-false true h = refl
unnot-false false h = absurd (true≢false h)

module _ (s : Setup) (p : Plain) where
  -- memory of the length set up
  fits : not (eqb (length p.memory) s.memory) ≡ false → length p.memory ≡ s.memory
  fits h = eqb-true (length p.memory) s.memory (unnot-false (eqb (length p.memory) s.memory) h)

  fits_not : length p.memory ≡ s.memory → not (eqb (length p.memory) s.memory) ≡ false
  fits_not e = ap not (eq-eqb (length p.memory) s.memory e)

  hand-taken : (out : List ℕ) → Says (hand_refused s p out ≡ false) (HandTaken s p out)
  hand-taken out =
      let a = ltb (length out) 24 in
      let b = not (eqb (length p.memory) s.memory) in
      let c = not (eqb p.r 0) in (
        (λ h.
            let g = or_right a (b || c) h in
            record {
              room = ltb-false (length out) 24 (or_left a (b || c) h);
              memory = fits (or_left b c g);
              idle = eqb-true p.r 0 (unnot-false (eqb p.r 0) (or_right b c g));
            }),
        (λ t. neither (le-ltb (length out) 24 t.room) (neither (fits_not t.memory) (ap not (eq-eqb p.r 0 t.idle)))),
      )

  next-taken : (out : List ℕ) → Says (next_refused s p out ≡ false) (NextTaken s p out)
  next-taken out =
      let a = eqb p.r 0 in
      let b = ltb (length out) (16 + s.pmtu) in
      let c = not (eqb (length p.memory) s.memory) in (
        (λ h.
            let g = or_right a (b || c) h in
            record {
              some = omega (arith, eqb-false p.r 0 (or_left a (b || c) h));
              room = ltb-false (length out) (16 + s.pmtu) (or_left b c g);
              memory = fits (or_right b c g);
            }),
        (λ t. neither (ne_eqb p.r 0 (λ z. absurd (omega (arith, t.some)))) (neither (le-ltb (length out) (16 + s.pmtu) t.room) (fits_not t.memory))),
      )

  post-taken : (e : Entry) → Says (post_refused s p e ≡ false) (PostTaken s p e)
  post-taken e =
      let a = ltb s.memory (e.offset + e.length) in
      let b = leb 16 (length p.held + length p.waiting) in (
        (λ h.
            record {
              inside = ltb-false s.memory (e.offset + e.length) (or_left a b h);
              free = leb-false 16 (length p.held + length p.waiting) (or_right a b h);
            }),
        (λ t. neither (le-ltb s.memory (e.offset + e.length) t.inside) (lt-leb 16 (length p.held + length p.waiting) t.free)),
      )

pub taken_is : TakenIs
taken_is s p out e = (hand-taken s p out, next-taken s p out, post-taken s p e)

-- no more is asked, and no less
module _ (s : Setup) (S : List Slot) (p : Plain) (j : ℕ) (out : List ℕ) where
  abbrev HandedBy : Type 0
  HandedBy = (j < length S) × (HandTaken s p out → (number_along S j ≤ number_along S p.k + 8388607) × (number_along S p.k ≤ number_along S j + 8388607))

  handed-more : HandedBy → Handed s S p j out
  handed-more h = record { inside = h.0; near = λ z. let n = h.1 ((hand-taken s p out).0 z) in record { behind = n.1; ahead = n.0 } }

  handed-less : Handed s S p j out → HandedBy
  handed-less H = (H.inside, λ t. let n = H.near ((hand-taken s p out).1 t) in (n.ahead, n.behind))

pub handed-is : HandedIs
handed-is s S p j out = (handed-less s S p j out, handed-more s S p j out)

pub refused-free : RefusedFree
refused-free s S p j out i h = (handed-is s S p j out).1 (i, λ t. absurd (go t h))
  where
    go : HandTaken s p out → (length out < 24) ⊎ ((length p.memory ≡ s.memory → ⊥) ⊎ (1 ≤ p.r)) → ⊥
    go t (inl a) = omega (arith, t.room)
    go t (inr (inl a)) = a t.memory
    go t (inr (inr a)) = omega (arith, t.idle)

-- of every element, wherever it stands
all_among : {A : Type 0} (P : A → Type 0) (xs : List A) → All P xs → (x : A) → Among x xs → P x
all_among {A} P xs a x (before, (after, e)) = go before xs a e
  where
    go : (ys zs : List A) → All P zs → zs ≡ ys ++ (x ∷ after) → P x
    go [] zs a e = (subst (All P) e a).0
    go (y ∷ ys) zs a e = go ys (ys ++ (x ∷ after)) (subst (All P) e a).1 refl

among-all : {A : Type 0} (P : A → Type 0) (xs : List A) → ((x : A) → Among x xs → P x) → All P xs
among-all P [] f = tt
among-all P (x ∷ xs) f = (f x ([], (xs, refl)), among-all P xs (λ y m. f y (x ∷ m.0, (m.1.0, ap (λ z. x ∷ z) m.1.1))))

pub stream-is : StreamIs
stream-is s regions ms = (all_among (Permitted s regions) ms, among-all (Permitted s regions) ms)

-- a SEND fits, and no other message is asked
least : (n : ℕ) (r : Request) (d : ℕ) → Says (AtLeast n r d) (IsSend r → d ≤ n)
least n Send d = ((λ h u. h), (λ f. f tt))
least n (SendImmediate v) d = ((λ h u. h), (λ f. f tt))
least n (Write t) d = ((λ h u. absurd u), (λ f. tt))
least n (WriteImmediate t v) d = ((λ h u. absurd u), (λ f. tt))
least n (Read a) d = ((λ h u. absurd u), (λ f. tt))
least n (CmpSwap a) d = ((λ h u. absurd u), (λ f. tt))
least n (FetchAdd t v) d = ((λ h u. absurd u), (λ f. tt))

long-is : (ms : List Message) (e : Entry) → Says (LongEnough ms e) (NoSendLonger ms e.length)
long-is ms e =
    let P : Message → Type 0 = λ m. AtLeast e.length m.request (length m.bytes) in (
      (λ l m a. (least e.length m.request (length m.bytes)).0 (all_among P ms l m a)),
      (λ f. among-all P ms (λ m a. (least e.length m.request (length m.bytes)).1 (f m a))),
    )

posted-more : (s : Setup) (ms : List Message) (p : Plain) (e : Entry) → (PostTaken s p e → NoSendLonger ms e.length) → Posted s ms p e
posted-more s ms p e f = record { long = λ z. (long-is ms e).1 (f ((post-taken s p e).0 z)) }

pub posted-is : PostedIs
posted-is s ms p e = ((λ P t. (long-is ms e).0 (P.long ((post-taken s p e).1 t))), posted-more s ms p e)

pub waiting-is : WaitingIs
waiting-is ms es = (
  (λ l e a. (long-is ms e).0 (all_among (LongEnough ms) es l e a)),
  (λ f. among-all (LongEnough ms) es (λ e a. (long-is ms e).1 (f e a))),
)

-- each call at the state before it
module _ (s : Setup) (regions : List (List ℕ)) (ms : List Message) (S : List Slot) where
  abbrev Each : Plain → List Call → Type 0
  Each p calls = (before : List Call) (c : Call) (after : List Call) → calls ≡ before ++ (c ∷ after) → CallPermitted s ms S (plain s regions S p before) c

  each-call : (before : List Call) (p : Plain) (calls : List Call) → AllCallsPermitted s regions ms S p calls
      → (c : Call) (after : List Call) → calls ≡ before ++ (c ∷ after) → CallPermitted s ms S (plain s regions S p before) c
  unfolding plain
  each-call [] p calls a c after e = (subst (AllCallsPermitted s regions ms S p) e a).0
  each-call (b ∷ before) p calls a c after e =
      each-call before (plain_step s regions S p b) (before ++ (c ∷ after)) (subst (AllCallsPermitted s regions ms S p) e a).1 c after refl

  all-calls : (calls : List Call) (p : Plain) → Each p calls → AllCallsPermitted s regions ms S p calls
  unfolding plain
  all-calls [] p f = tt
  all-calls (c ∷ cs) p f =
      (f [] c cs refl, all-calls cs (plain_step s regions S p c) (λ before b after e. f (c ∷ before) b after (ap (λ z. c ∷ z) e)))

pub calls_are : CallsAre
calls_are s regions ms S p calls = ((λ a before c after e. each-call s regions ms S before p calls a c after e), all-calls s regions ms S calls p)

pub call-is : CallIs
call-is s ms S p j out e = (((λ x. x), (λ x. x)), tt, ((λ x. x), (λ x. x)))

-- every packet handed in is one of the stream
pub calls-inside : (s : Setup) (regions : List (List ℕ)) (ms : List Message) (S : List Slot) (p : Plain) (calls : List Call)
    → AllCallsPermitted s regions ms S p calls → AllInside (length S) calls
calls-inside s regions ms S p [] h = tt
calls-inside s regions ms S p (Hand j out ∷ cs) h = (h.0.inside, calls-inside s regions ms S (plain_step s regions S p (Hand j out)) cs h.1)
calls-inside s regions ms S p (Next out ∷ cs) h = calls-inside s regions ms S (plain_step s regions S p (Next out)) cs h.1
calls-inside s regions ms S p (Post e ∷ cs) h = calls-inside s regions ms S (plain_step s regions S p (Post e)) cs h.1

-- a permitted message
lies : (regions : List (List ℕ)) (right : Region → Bool) (key address n : ℕ) → InRegion regions right key address n
    → LiesInRegion regions right key address n
lies regions right key address zero h = inl refl
lies regions right key address (suc n) h = inr (h.0 (omega arith))

allowed : (s : Setup) (regions : List (List ℕ)) (r : Request) (n : ℕ) → MayBe s regions r n → Allowed s regions r n × (InLimit r n × RequestWidths r)
allowed s regions Send n h = (h.0, (h.1, tt))
allowed s regions (SendImmediate v) n h = (h.0, (h.1, h.2))
allowed s regions (Write t) n h = ((h.0, lies regions (λ r. r.write) t.key t.address n h.2), (h.1, h.2.1))
allowed s regions (WriteImmediate t v) n h = ((h.0, lies regions (λ r. r.write) t.key t.address n h.2), (h.1, (h.2.1, h.3)))
allowed s regions (Read x) n h =
    ((h.0, lies regions (λ r. r.read) x.key x.address x.length h.2), (h.1, (h.2.1.0, h.2.1.1, omega (arith, h.1))))
allowed s regions (CmpSwap x) n h =
    ((h.0, lies regions (λ r. r.atomic) x.key x.address 8 h.2, h.1), (tt, (h.2.1.0, h.2.1.1, h.3, h.4)))
allowed s regions (FetchAdd t v) n h = ((h.0, lies regions (λ r. r.atomic) t.key t.address 8 h.2, h.1), (tt, (h.2.1, h.3)))

permitted-more : (s : Setup) (regions : List (List ℕ)) (m : Message) → Comes s m.connection → MayBe s regions m.request (length m.bytes) → Permitted s regions m
permitted-more s regions m C h =
    let a = allowed s regions m.request (length m.bytes) h in
    record {
      allowed = a.0;
      addressed =
          record {
            limit = a.1.0;
            service = C.service;
            pmtu = C.pmtu;
            dest = C.dest;
            match = matches m.connection.pkey s.pkey C.keys.same C.keys.some C.keys.full;
            pkey = C.width;
            widths = a.1.1;
          };
    }

comes : (s : Setup) (m : Message) → Addressed s m → Comes s m.connection
comes s m A =
    let k = matches-only m.connection.pkey s.pkey A.match in
    record { service = A.service; pmtu = A.pmtu; dest = A.dest; keys = record { same = k.0; some = k.1; full = k.2 }; width = A.pkey }

in-region : (regions : List (List ℕ)) (right : Region → Bool) (key address n : ℕ) → LiesInRegion regions right key address n
    → address < 2 ^ 64 → key < 2 ^ 32 → InRegion regions right key address n
in-region regions right key address n (inl e) a k = ((λ h. absurd (omega arith)), (a, k))
in-region regions right key address n (inr r) a k = ((λ h. r), (a, k))

may-be : (s : Setup) (regions : List (List ℕ)) (r : Request) (n : ℕ) → Allowed s regions r n → InLimit r n → RequestWidths r → MayBe s regions r n
may-be s regions Send n a l w = (a, l)
may-be s regions (SendImmediate v) n a l w = (a, l, w)
may-be s regions (Write t) n a l w = (a.0, l, in-region regions (λ r. r.write) t.key t.address n a.1 w.0 w.1)
may-be s regions (WriteImmediate t v) n a l w = (a.0, l, in-region regions (λ r. r.write) t.key t.address n a.1 w.0.0 w.0.1, w.1)
may-be s regions (Read x) n a l w = (a.0, l, in-region regions (λ r. r.read) x.key x.address x.length a.1 w.0 w.1)
may-be s regions (CmpSwap x) n a l w = (a.0, a.2, in-region regions (λ r. r.atomic) x.key x.address 8 a.1 w.0 w.1, w.2, w.3)
may-be s regions (FetchAdd t v) n a l w = (a.0, a.2, in-region regions (λ r. r.atomic) t.key t.address 8 a.1 w.0.0 w.0.1, w.1)

pub permitted-is : PermittedIs
permitted-is s regions m = (
  (λ P. (comes s m P.addressed, may-be s regions m.request (length m.bytes) P.allowed P.addressed.limit P.addressed.widths)),
  (λ h. permitted-more s regions m h.0 h.1),
)

pub asked_is : AskedIs
asked_is w ms m calls =
    ((λ A. (A.fresh, A.permitted, A.waiting, A.each)), (λ h. record { fresh = h.0; permitted = h.1; waiting = h.2; each = h.3 }))

pub agree-is : AgreeIs
agree-is x p = (
  (λ A. (A.memory, A.completions, ap (λ n. n.0) A.msn, ap (λ n. n.0) A.expected)),
  (λ h. record { memory = h.0; completions = h.1; msn = λ i. record { 0 = h.2 i }; expected = λ i. record { 0 = h.3 i } }),
)
