-- Every packet is executed in turn, whatever is refused, lost or comes again between.
use Prim.Native.Nat.{ℕ, zero, suc, ◌+◌, ◌-◌, ◌≤◌, ◌<◌}
use mathlib.Core.Path.{◌≡◌, refl, sym, ap, subst, ◌∙◌}
use mathlib.Core.Bool.{Bool, true, false, cond, not, ◌||◌, true≢false}
use mathlib.Core.List.{List, [], ◌∷◌, ◌++◌}
use native.Mathlib.Omega.{arith}
use lib.Dec.{leb, ltb, eqb}
use lib.ListN.{length, take}
use borrow.Author.Tests.{eq-eqb, ne_eqb, lt-ltb, le-ltb, ltb-true}
use Rattle.lemmas.proofs.Auto.{tests}
use Rattle.pmtu.proofs.Counting.{bounds, counts}
use Rattle.memory.proofs.Overwrite.{length-store}
use Rattle.memory.proofs.Words.{fetch-within, swap-within}
use Rattle.table.specs.declared.Entry.{Entry}
use Rattle.pair.specs.Claims.{SetupFit}
use Rattle.pair.specs.declared.Setup.{Setup}
use Rattle.cut_spec.specs.Claims.{InLimit}
use Rattle.cut_spec.specs.declared.Request.{Request}
use Rattle.cut_spec.specs.declared.Request.TheVariants.{Send, SendImmediate, Write, WriteImmediate, Read, CmpSwap, FetchAdd}
use Rattle.responder_spec.specs.Apply.{memory_by}
use Rattle.responder_spec.specs.Inbound.{inbound, left_by}
use Rattle.responder_spec.specs.Steady.{Steady}
use Rattle.responder_spec.specs.declared.Change.{Change}
use Rattle.sound_laws.proofs.Kept.{inbound-steady, next-steady, post-steady}
use Rattle.delivery_spec.specs.Stream.{Message, Slot, slot, stream, psn_count_of, psn_count, number_along}
use Rattle.delivery_spec.specs.Plain.{Plain, Call, none, is_read, slot_needs_entry, is_last, held_now, with_responses, with_waiting}
use Rattle.delivery_spec.specs.Plain.{execute_with, execute, deliver, post_refused, plain_step, plain, start}
use Rattle.delivery_spec.specs.Plain.Call.{Hand, Next, Post}
use Rattle.delivery_spec.specs.Demand.{Run, step, LongEnough, CallPermitted, AllCallsPermitted, Handed, waiting_at}
use Rattle.delivery.specs.Witness.{whole_entry, outside_entry, asking, draining, in_turn, losing, with_faults, Witness}
use Rattle.delivery_spec.proofs.Numbers.{along-suc}
use Rattle.delivery_steps.proofs.Chain.{Good, good, reliable-serves}
use Rattle.delivery_steps.proofs.Fitting.{and-false}
use Rattle.delivery_steps.proofs.Rel.{Link}
use Rattle.delivery_steps.proofs.Runs.{setup-kept, regions-kept, steady-next, linked, fresh-link, steady}

-- no call changes the length of memory
long-either : (b : Bool) (x y : List ℕ) (n : ℕ) → length x ≡ n → length y ≡ n → length (cond b x y) ≡ n
long-either true x y n e f = e
long-either false x y n e f = f

memory-long : (c : Change) (m b : List ℕ) → length (memory_by c m b) ≡ length m
unfolding memory_by
memory-long c m b =
    long-either (eqb c.act 1) _ _ (length m) (length-store m c.at _)
    (long-either (eqb c.act 2) _ _ (length m) (fetch-within m c.at c.swap).kept
    (long-either (eqb c.act 3) _ _ (length m) (swap-within m c.at c.compare c.swap).kept refl))

step-long : (S : List Slot) (x : Run) (c : Call) → length (step S x c).memory ≡ length x.memory
unfolding step inbound left_by
step-long S x (Hand j out) = memory-long _ x.memory _
step-long S x (Next out) = refl
step-long S x (Post e) = refl

-- an entry is there after it was posted, or there were 16
pub record KeepsEntries (p q : Plain) : Type 0 where
  pub k : q.k ≡ p.k
  pub r : q.r ≡ p.r
  pub held : q.held ≡ p.held
  pub memory : q.memory ≡ p.memory
  pub some : none q.waiting ≡ false

some_more : (es : List Entry) (e : Entry) → none (es ++ (e ∷ [])) ≡ false
some_more [] e = refl
some_more (x ∷ es) e = refl

some-there : (es : List Entry) → 1 ≤ length es → none es ≡ false
some-there [] h = absurd (omega arith)
some-there (x ∷ es) h = refl

few : (b : Bool) (held waiting : List Entry) → length held ≤ 1 → length (cond b (take 1 waiting) held) ≤ 1
few true held [] h = omega arith
few true held (e ∷ es) h = omega arith
few false held waiting h = h

none-few : (b : Bool) (held : List Entry) → length held ≤ 1 → length (cond b [] held) ≤ 1
none-few true held h = omega arith
none-few false held h = h

-- a packet takes at most 4,096 numbers
count_small : (r : Request) (n pmtu : ℕ) → 256 ≤ pmtu → InLimit r n → psn_count_of r pmtu ≤ 4096
count_small Send n pmtu b h = omega arith
count_small (SendImmediate v) n pmtu b h = omega arith
count_small (Write t) n pmtu b h = omega arith
count_small (WriteImmediate t v) n pmtu b h = omega arith
count_small (Read a) n pmtu b h = (counts a.length pmtu (omega arith)).least 4096 (omega arith) (omega arith)
count_small (CmpSwap a) n pmtu b h = omega arith
count_small (FetchAdd t v) n pmtu b h = omega arith

few-numbers : (s : Setup) (regions : List (List ℕ)) (ms : List Message) (S : List Slot) → Good s regions ms S → SetupFit s
    → (j : ℕ) → j < length S → psn_count (slot S j) ≤ 4096
few-numbers s regions ms S G f j h =
    let A = (G.stands j h).outgoing.addressed in
    let b : 256 ≤ s.pmtu = (bounds s.pmtu f.pmtu).0 in
    count_small (slot S j).message.request (length (slot S j).message.bytes) (slot S j).message.connection.pmtu (omega (arith, A.pmtu)) A.limit

module _ (s : Setup) (regions : List (List ℕ)) (ms : List Message) (S : List Slot) (G : Good s regions ms S) (f : SetupFit s)
    (rc : s.service ≡ 0) (out : List ℕ) (room : 4112 ≤ length out) (long : LongEnough ms (whole_entry s)) where
  -- the plain run and the pair's stand together, with memory of the length set up
  record Together (p : Plain) (x : Run) : Type 0 where
    setup : x.whole.pair.setup ≡ s
    tables : x.whole.regions ≡ regions
    link : Link ms S p x
    sound : Steady x.whole
    bytes : length x.memory ≡ s.memory

  on : (p : Plain) (x : Run) → Together p x → (c : Call) → CallPermitted s ms S p c → Together (plain_step s regions S p c) (step S x c)
  on p x T c m =
      let H = subst (λ r. Good x.whole.pair.setup r ms S) (sym T.tables) (subst (λ z. Good z regions ms S) (sym T.setup) G) in
      let n = subst (λ z. CallPermitted z ms S p c) (sym T.setup) m in
      record {
        setup = (setup-kept S x c).is ∙ T.setup;
        tables = regions-kept S x c ∙ T.tables;
        link =
            subst (λ r. Link ms S (plain_step s r S p c) (step S x c)) T.tables (subst (λ z. Link ms S (plain_step z x.whole.regions S p c) (step S x c)) T.setup
            (linked inbound-steady next-steady post-steady ms S p x T.link T.sound H (ap (λ z. z.service) T.setup ∙ rc) c n));
        sound = steady-next inbound-steady next-steady post-steady ms S p x T.sound H c n;
        bytes = step-long S x c ∙ T.bytes;
      }

  bytes-are : (p : Plain) (x : Run) → Together p x → length p.memory ≡ s.memory
  bytes-are p x T = ap length (sym T.link.memory) ∙ T.bytes

  supplies : (p : Plain) → length p.held ≤ 1 → KeepsEntries p (plain_step s regions S p (Post (whole_entry s)))
  supplies p h = rw (le-ltb s.memory (0 + s.memory) (omega arith)) (go (leb 16 (length p.held + length p.waiting)) refl)
    where
      go : (b : Bool) → leb 16 (length p.held + length p.waiting) ≡ b → KeepsEntries p (cond b p (with_waiting p (p.waiting ++ (whole_entry s ∷ []))))
      go true e = record { k = refl; r = refl; held = refl; memory = refl; some = some-there p.waiting (omega (arith, tests)) }
      go false e = record { k = refl; r = refl; held = refl; memory = refl; some = some_more p.waiting (whole_entry s) }

  record Goal (p : Plain) (calls : List Call) : Type 0 where
    each : AllCallsPermitted s regions ms S p calls
    all : (plain s regions S p calls).k ≡ length S

  -- a call that leads from p to q
  abbrev From : Plain → List Call → Type 0
  From q rest = (y : Run) → Together q y → Goal q rest

  call : (p q : Plain) (x : Run) (c : Call) (rest : List Call) → Together p x → CallPermitted s ms S p c → plain_step s regions S p c ≡ q
      → From q rest → Goal p (c ∷ rest)
  unfolding plain
  call p q x c rest T m e k =
      let a = subst (λ z. Goal z rest) (sym e) (k (step S x c) (subst (λ z. Together z (step S x c)) e (on p x T c m))) in
      record { each = (m, a.each); all = a.all }

  -- asking for a response takes one away, if there is one
  fewer : (p : Plain) → length p.memory ≡ s.memory → plain_step s regions S p (Next out) ≡ with_responses p (p.r - 1)
  fewer p m =
      let b : s.pmtu ≤ 4096 = (bounds s.pmtu f.pmtu).1 in
      rw (le-ltb (length out) (16 + s.pmtu) (omega arith), eq-eqb (length p.memory) s.memory m) (go (eqb p.r 0) refl)
    where
      go : (b : Bool) → eqb p.r 0 ≡ b → cond (b || (false || not true)) p (with_responses p (p.r - 1)) ≡ with_responses p (p.r - 1)
      go true e = let z : p.r ≡ p.r - 1 = omega (arith, tests) in λ i. with_responses p (z i)
      go false e = refl

  drains : (n : ℕ) (p : Plain) (x : Run) (rest : List Call) → Together p x → p.r ≤ n → From (with_responses p 0) rest → Goal p (asking out n rest)
  unfolding asking
  drains zero p x rest T h k =
      let z : p.r ≡ 0 = omega arith in
      let e : p ≡ with_responses p 0 = λ i. with_responses p (z i) in
      subst (λ q. Goal q rest) (sym e) (k x (subst (λ q. Together q x) e T))
  drains (suc n) p x rest T h k =
      call p (with_responses p (p.r - 1)) x (Next out) (asking out n rest) T tt (fewer p (bytes-are p x T))
      (λ y U. drains n (with_responses p (p.r - 1)) y rest U (omega arith) k)

  -- what a packet of the stream, handed in with room for an answer and nothing to send, comes to
  delivered : (p : Plain) (j : ℕ) → length p.memory ≡ s.memory → p.r ≡ 0 → plain_step s regions S p (Hand j out) ≡ deliver regions S p j
  delivered p j m r = rw (le-ltb (length out) 24 (omega arith), eq-eqb (length p.memory) s.memory m, eq-eqb p.r 0 r)

  -- it is near, if it is the one before packet k, packet k or the one after
  near-at : (p : Plain) (j : ℕ) → j < length S → number_along S j ≤ number_along S p.k + 4096 → number_along S p.k ≤ number_along S j + 4096
      → (o : List ℕ) → Handed s S p j o
  near-at p j i a b o = record { inside = i; near = λ _. record { behind = omega arith; ahead = omega arith } }

  next_place : (j : ℕ) → j < length S → (number_along S j ≤ number_along S (suc j)) × (number_along S (suc j) ≤ number_along S j + 4096)
  next_place j i = let c = few-numbers s regions ms S G f j i in (omega (arith, along-suc S j i), omega (arith, along-suc S j i))

  module _ (j : ℕ) (i : j < length S) where
    abbrev t : Slot
    t = slot S j

    -- packet j is the next one, or it is the last executed
    record Due (p : Plain) : Type 0 where
      k : p.k ≡ j
      r : p.r ≡ 0
      held : length p.held ≤ 1

    record Done (q : Plain) : Type 0 where
      k : q.k ≡ suc j
      r : q.r ≡ cond (is_read t.message.request) (psn_count t) 0
      held : length q.held ≤ 1

    spans : (b : Bool) (r : ℕ) → r ≡ cond b (psn_count t) 0 → r ≤ psn_count t
    spans true r e = omega arith
    spans false r e = omega arith

    here : (p : Plain) → p.k ≡ j → (o : List ℕ) → Handed s S p j o
    here p k o = near-at p j i (omega (arith, ap (number_along S) k)) (omega (arith, ap (number_along S) k)) o

    back : (q : Plain) → q.k ≡ suc j → Handed s S q j out
    back q k = let n = next_place j i in near-at q j i (omega (arith, ap (number_along S) k, n.0)) (omega (arith, ap (number_along S) k, n.1)) out

    executes : (p : Plain) (x : Run) (rest : List Call) → Together p x → Due p → ((q : Plain) → Done q → From q rest)
        → Goal p (Post (whole_entry s) ∷ Hand j out ∷ rest)
    unfolding execute_with
    executes p x rest T N k =
        let p1 = plain_step s regions S p (Post (whole_entry s)) in
        let A = supplies p N.held in
        let q = execute regions p1 t in
        let same : j ≡ p1.k = sym (A.k ∙ N.k) in
        call p p1 x (Post (whole_entry s)) (Hand j out ∷ rest) T (record { long = λ a. long }) refl
        (λ y U.
        call p1 q y (Hand j out) rest U (here p1 (sym same) out)
        (delivered p1 j (bytes-are p1 y U) (A.r ∙ N.r)
        ∙ rw (eq-eqb j p1.k same, A.some) (ap (λ b. cond b p1 q) (and-false (slot_needs_entry t))))
        (k q
        (record {
          k = ap suc (sym same);
          r = ap (cond (is_read t.message.request) (psn_count t)) (A.r ∙ N.r);
          held = none-few (is_last t) (held_now p1 t) (few (slot_needs_entry t) p1.held p1.waiting (subst (λ es. length es ≤ 1) (sym A.held) N.held));
        })))

    -- it comes again: a READ is answered again, all else changes nothing
    again : (q : Plain) (x : Run) (rest : List Call) → Together q x → q.k ≡ suc j → q.r ≡ 0 → From q rest
        → Goal q (Hand j out ∷ draining out S j rest)
    again q x rest T k r g =
        let n = cond (is_read t.message.request) (psn_count t) 0 in
        let z : with_responses q 0 ≡ q = λ w. with_responses q (sym r w) in
        call q (with_responses q n) x (Hand j out) (draining out S j rest) T (back q k)
        (delivered q j (bytes-are q x T) r
        ∙ rw (ne_eqb j q.k (λ e. absurd (omega arith)), lt-ltb j q.k (omega arith)) (read (is_read t.message.request)))
        (λ y U. drains (psn_count t) (with_responses q n) y rest U (spans (is_read t.message.request) n refl)
        (subst (λ v. From v rest) (sym z) g))
      where
        read : (b : Bool) → cond b (with_responses q (psn_count t)) q ≡ with_responses q (cond b (psn_count t) 0)
        read true = refl
        read false = λ w. with_responses q (r w)

    -- at once, a READ is refused, all else is a duplicate
    at_once : (q : Plain) → Done q → length q.memory ≡ s.memory → plain_step s regions S q (Hand j out) ≡ q
    at_once q D m =
        let k = D.k in
        rw (le-ltb (length out) 24 (omega arith), eq-eqb (length q.memory) s.memory m, ne_eqb j q.k (λ e. absurd (omega arith)), lt-ltb j q.k (omega arith))
        (go (is_read t.message.request) D.r)
      where
        go : (b : Bool) → q.r ≡ cond b (psn_count t) 0 → cond (not (eqb q.r 0)) q (cond b (with_responses q (psn_count t)) q) ≡ q
        go true e = rw (ne_eqb q.r 0 (λ z. absurd (omega (arith, G.some j i))))
        go false e = rw (eq-eqb q.r 0 e)

    -- the packet after it changes nothing
    loses : (p : Plain) (x : Run) (rest : List Call) → Together p x → Due p → From p rest → Goal p (losing out S j rest)
    loses p x rest T N g = go (ltb (suc j) (length S)) refl
      where
        go : (b : Bool) → ltb (suc j) (length S) ≡ b → Goal p (cond b (Hand (suc j) out ∷ rest) rest)
        go true e =
            let n = next_place j i in
            let k = N.k in
            call p p x (Hand (suc j) out) rest T
            (near-at p (suc j) (ltb-true (suc j) (length S) e) (omega (arith, ap (number_along S) k, n.1)) (omega (arith, ap (number_along S) k, n.0)) out)
            (delivered p (suc j) (bytes-are p x T) N.r
            ∙ rw (ne_eqb (suc j) p.k (λ z. absurd (omega arith)), le-ltb (suc j) p.k (omega arith)))
            g
        go false e = g x T

  turns : (n j : ℕ) (p : Plain) (x : Run) → Together p x → p.k ≡ j → j + n ≡ length S → p.r ≡ 0 → length p.held ≤ 1
      → Goal p (in_turn s out S j n)
  unfolding in_turn plain
  turns zero j p x T k l r h = record { each = tt; all = omega (arith, k) }
  turns (suc n) j p x T k l r h =
      let i : j < length S = omega (arith, l) in
      executes j i p x _ T (record { k = k; r = r; held = h })
      (λ q D y U. drains (psn_count (slot S j)) q y _ U (spans j i (is_read (slot S j).message.request) q.r D.r)
      (λ z W. turns n (suc j) (with_responses q 0) z W D.k (omega (arith, l)) refl D.held))

  faults : (n j : ℕ) (p : Plain) (x : Run) → Together p x → p.k ≡ j → j + n ≡ length S → p.r ≡ 0 → length p.held ≤ 1
      → Goal p (with_faults s out S j n)
  unfolding with_faults plain
  faults zero j p x T k l r h = record { each = tt; all = omega (arith, k) }
  faults (suc n) j p x T k l r h =
      let i : j < length S = omega (arith, l) in
      let N : Due j i p = record { k = k; r = r; held = h } in
      call p p x (Next out) _ T tt (rw (eq-eqb p.r 0 r))
      (λ x1 T1. call p p x1 (Hand j []) _ T1 (here j i p k []) refl
      (λ x2 T2. call p p x2 (Post (outside_entry s)) _ T2 (record { long = λ e. absurd (true≢false (sym beyond ∙ e)) }) (ap (λ b. cond b p (with_waiting p (p.waiting ++ (outside_entry s ∷ [])))) beyond)
      (λ x3 T3. loses j i p x3 _ T3 N
      (λ x4 T4. executes j i p x4 _ T4 N
      (λ q D y U. call q q y (Hand j out) _ U (back j i q D.k) (at_once j i q D (bytes-are q y U))
      (λ y1 U1. drains (psn_count (slot S j)) q y1 _ U1 (spans j i (is_read (slot S j).message.request) q.r D.r)
      (λ y2 U2. again j i (with_responses q 0) y2 _ U2 D.k refl
      (λ z W. faults n (suc j) (with_responses q 0) z W D.k (omega (arith, l)) refl D.held))))))))
    where
      beyond : post_refused s p (outside_entry s) ≡ true
      beyond = ap (λ b. b || leb 16 (length p.held + length p.waiting)) (lt-ltb s.memory (1 + s.memory) (omega arith))

pub witness : Witness
witness w ms m out F p l h b room =
    let s = w.pair.setup in
    let f = F.sound.pair.setup.0 in
    let S = stream s.start ms in
    let G = good s w.regions ms f (reliable-serves s ms F.reliable) p in
    let x : Run = record { whole = w; memory = m; completions = [] } in
    let T : Together s w.regions ms S G f F.reliable out room h (start s m (waiting_at w)) x =
    record { setup = refl; tables = refl; link = fresh-link w ms m F l G; sound = steady w F.sound; bytes = b } in
    let a = turns s w.regions ms S G f F.reliable out room h (length S) 0 (start s m (waiting_at w)) x T refl (omega arith) refl (omega arith) in
    let c = faults s w.regions ms S G f F.reliable out room h (length S) 0 (start s m (waiting_at w)) x T refl (omega arith) refl (omega arith) in (
      record { asked = record { fresh = F; permitted = p; waiting = l; each = a.each }; all = a.all },
      record { asked = record { fresh = F; permitted = p; waiting = l; each = c.each }; all = c.all },
    )
