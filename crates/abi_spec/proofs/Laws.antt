-- The proofs of the claims about lists and pairs.
use Prim.Native.Nat.{ℕ, zero, suc, ◌%◌, ◌^◌, ◌≤◌, ◌<◌}
use mathlib.Core.Path.{◌≡◌, refl, sym, ap, subst, ◌∙◌}
use mathlib.Core.Bool.{Bool, true, false, cond, not, ◌||◌, true≢false}
use mathlib.Core.List.{List, [], ◌∷◌}
use mathlib.Core.Logic.{⊎_elim}
use lib.Dec.{eqb, ltb, leb}
use lib.ListN.{length}
use native.Mathlib.Nat.{mod-eq_of_lt, mod-lt}
use native.Mathlib.Omega.{arith}
use borrow.Author.Tests.{eqb-true, eqb-false, eq-eqb, leb-false, ltb-false, lt-leb, le-ltb}
use Rattle.lemmas.proofs.Tests.{not-false, neither}
use Rattle.header.specs.Bytes.{bit}
use Rattle.pair.specs.Claims.{SetupSound}
use Rattle.pair.specs.Pair.{blank_pair}
use Rattle.pair.specs.Sound.{pair_unsound}
use Rattle.pair.specs.declared.Pair.{Pair}
use Rattle.pair.proofs.Tests.{tested}
use Rattle.abi_spec.specs.Words.{word, eq_words, flag}
use Rattle.abi_spec.specs.Pair.{other_length, numbers_stray, flags_stray, heads_stray, fields_stray, strays, timer_said, setup_said, message_of, read_of, narrowed, said_by, pair_of, pair_words}
use Rattle.abi_spec.specs.Claims.{SameIs, InRange, RangesTested, WordsSaid, StrayUnsound, SetupFields, PairFields, PairBack, SaidFits, SoundFits}

pub same_self : (a : List ℕ) → eq_words a a ≡ true
unfolding eq_words
same_self [] = refl
same_self (x ∷ xs) = ap (λ b. cond b (eq_words xs xs) false) (eq-eqb x x refl) ∙ same_self xs

same-only : (a b : List ℕ) → eq_words a b ≡ true → a ≡ b
unfolding eq_words
same-only [] [] e = refl
same-only [] (y ∷ ys) e = absurd (true≢false (sym e))
same-only (x ∷ xs) [] e = absurd (true≢false (sym e))
same-only (x ∷ xs) (y ∷ ys) e = go (eqb x y) refl e (same-only xs ys)
  where
    go : (b : Bool) → eqb x y ≡ b → cond b (eq_words xs ys) false ≡ true → (eq_words xs ys ≡ true → xs ≡ ys) → x ∷ xs ≡ y ∷ ys
    go true h r f = λ i. eqb-true x y h i ∷ f r i
    go false h r f = absurd (true≢false (sym r))

pub same-is : SameIs
same-is a b = (same-only a b, λ e. ap (eq_words a) (sym e) ∙ same_self a)

-- n words, written out
upto : ℕ → (ℕ → ℕ) → List ℕ
upto zero f = []
upto (suc n) f = f 0 ∷ upto n (λ i. f (suc i))

all_of : (w : List ℕ) → w ≡ upto (length w) (word w)
unfolding upto
all_of [] = refl
all_of (x ∷ xs) = ap (λ (l : List ℕ). x ∷ l) (all_of xs)

thirty : (w : List ℕ) → length w ≡ 30 → w ≡ upto 30 (word w)
thirty w h = all_of w ∙ ap (λ n. upto n (word w)) h

pub flag-back : (b : Bool) → flag (bit b) ≡ b
unfolding flag
flag-back true = refl
flag-back false = refl

pub low-back : (x n : ℕ) → x < n → x % n ≡ x
low-back x n h = mod-eq_of_lt h

-- a word of a flag is the flag's own
flag_word : (x : ℕ) → x ≤ 1 → bit (flag x) ≡ x
unfolding flag
flag_word x h = go (eqb x 0) refl
  where
    go : (b : Bool) → eqb x 0 ≡ b → bit (not b) ≡ x
    go true e = sym (eqb-true x 0 e)
    go false e = let n = eqb-false x 0 e in omega arith

-- no test of a chain is true
neither-two : (a b : Bool) → (a || b) ≡ false → (a ≡ false) × (b ≡ false)
neither-two true b h = absurd (true≢false h)
neither-two false b h = (refl, h)

none-of-five : (a b c d e : Bool) → (a || (b || (c || (d || e)))) ≡ false → (a ≡ false) × (b ≡ false) × (c ≡ false) × (d ≡ false) × (e ≡ false)
none-of-five true b c d e h = absurd (true≢false h)
none-of-five false true c d e h = absurd (true≢false h)
none-of-five false false true d e h = absurd (true≢false h)
none-of-five false false false true e h = absurd (true≢false h)
none-of-five false false false false e h = (refl, refl, refl, refl, h)

none-of-six : (a b c d e f : Bool) → (a || (b || (c || (d || (e || f))))) ≡ false → (a ≡ false) × (b ≡ false) × (c ≡ false) × (d ≡ false) × (e ≡ false) × (f ≡ false)
none-of-six true b c d e f h = absurd (true≢false h)
none-of-six false true c d e f h = absurd (true≢false h)
none-of-six false false true d e f h = absurd (true≢false h)
none-of-six false false false true e f h = absurd (true≢false h)
none-of-six false false false false true f h = absurd (true≢false h)
none-of-six false false false false false f h = (refl, refl, refl, refl, refl, h)

none-of-seven : (a b c d e f g : Bool) → (a || (b || (c || (d || (e || (f || g)))))) ≡ false → (a ≡ false) × (b ≡ false) × (c ≡ false) × (d ≡ false) × (e ≡ false) × (f ≡ false) × (g ≡ false)
none-of-seven true b c d e f g h = absurd (true≢false h)
none-of-seven false true c d e f g h = absurd (true≢false h)
none-of-seven false false true d e f g h = absurd (true≢false h)
none-of-seven false false false true e f g h = absurd (true≢false h)
none-of-seven false false false false true f g h = absurd (true≢false h)
none-of-seven false false false false false true g h = absurd (true≢false h)
none-of-seven false false false false false false g h = (refl, refl, refl, refl, refl, refl, h)

numbers_fit : (a b c d e : ℕ) → numbers_stray a b c d e ≡ false → (a < 16777216) × (b < 16777216) × (c < 16777216) × (d < 16777216) × (e < 16777216)
unfolding numbers_stray
numbers_fit a b c d e h =
    let p = none-of-five (leb 16777216 a) (leb 16777216 b) (leb 16777216 c) (leb 16777216 d) (leb 16777216 e) h in (
      leb-false 16777216 a p.0,
      leb-false 16777216 b p.1,
      leb-false 16777216 c p.2,
      leb-false 16777216 d p.3,
      leb-false 16777216 e p.4,
    )

flags-fit : (a b c d e f : ℕ) → flags_stray a b c d e f ≡ false → (a ≤ 1) × (b ≤ 1) × (c ≤ 1) × (d ≤ 1) × (e ≤ 1) × (f ≤ 1)
unfolding flags_stray
flags-fit a b c d e f h =
    let p = none-of-six (ltb 1 a) (ltb 1 b) (ltb 1 c) (ltb 1 d) (ltb 1 e) (ltb 1 f) h in
    (ltb-false 1 a p.0, ltb-false 1 b p.1, ltb-false 1 c p.2, ltb-false 1 d p.3, ltb-false 1 e p.4, ltb-false 1 f p.5)

heads-fit : (a b : ℕ) → heads_stray a b ≡ false → (a < 16) × (b < 16)
unfolding heads_stray
heads-fit a b h = let p = neither-two (leb 16 a) (leb 16 b) h in (leb-false 16 a p.0, leb-false 16 b p.1)

fields_fit : (a b c d e f g : ℕ) → fields_stray a b c d e f g ≡ false
    → (a < 65536) × (b ≤ 31) × (c < 256) × (d < 4294967296) × (e < 4294967296) × (f < 4294967296) × (g < 256)
unfolding fields_stray
fields_fit a b c d e f g h =
    let p = none-of-seven (leb 65536 a) (ltb 31 b) (leb 256 c) (leb 4294967296 d) (leb 4294967296 e) (leb 4294967296 f) (leb 256 g) h in (
      leb-false 65536 a p.0,
      ltb-false 31 b p.1,
      leb-false 256 c p.2,
      leb-false 4294967296 d p.3,
      leb-false 4294967296 e p.4,
      leb-false 4294967296 f p.5,
      leb-false 256 g p.6,
    )

as_many : (w : List ℕ) → other_length w ≡ false → length w ≡ 30
unfolding other_length
as_many w h = eqb-true (length w) 30 (not-false (eqb (length w) 30) (not (eqb (length w) 30)) refl h)

in-range : (w : List ℕ) → strays w ≡ false → InRange w
unfolding strays
in-range w h =
    let p = none-of-five (other_length w) (numbers_stray (word w 2) (word w 3) (word w 4) (word w 26) (word w 27)) (flags_stray (word w 6) (word w 8) (word w 9) (word w 10) (word w 11) (word w 29)) (heads_stray (word w 17) (word w 24)) (fields_stray (word w 5) (word w 7) (word w 12) (word w 15) (word w 22) (word w 23) (word w 28)) h in
    let n = numbers_fit (word w 2) (word w 3) (word w 4) (word w 26) (word w 27) p.1 in
    let f = flags-fit (word w 6) (word w 8) (word w 9) (word w 10) (word w 11) (word w 29) p.2 in
    let r = heads-fit (word w 17) (word w 24) p.3 in
    let o = fields_fit (word w 5) (word w 7) (word w 12) (word w 15) (word w 22) (word w 23) (word w 28) p.4 in
    record {
      words = as_many w p.0;
      ours = n.0;
      theirs = n.1;
      start = n.2;
      pkey = o.0;
      service = f.0;
      timer = o.1;
      send = f.1;
      write = f.2;
      read = f.3;
      atomic = f.4;
      kind = o.2;
      key = o.3;
      entries = r.0;
      psn = o.4;
      answered = o.5;
      saved = r.1;
      expected = n.3;
      msn = n.4;
      state = o.6;
      nakmark = f.5;
    }

no_stray : (w : List ℕ) → InRange w → strays w ≡ false
unfolding strays other_length numbers_stray flags_stray heads_stray fields_stray
no_stray w r =
    neither (ap not (eq-eqb (length w) 30 r.words))
    (neither
    (neither (lt-leb 16777216 (word w 2) r.ours) (neither (lt-leb 16777216 (word w 3) r.theirs) (neither (lt-leb 16777216 (word w 4) r.start) (neither (lt-leb 16777216 (word w 26) r.expected) (lt-leb 16777216 (word w 27) r.msn)))))
    (neither
    (neither (le-ltb 1 (word w 6) r.service) (neither (le-ltb 1 (word w 8) r.send) (neither (le-ltb 1 (word w 9) r.write) (neither (le-ltb 1 (word w 10) r.read) (neither (le-ltb 1 (word w 11) r.atomic) (le-ltb 1 (word w 29) r.nakmark))))))
    (neither
    (neither (lt-leb 16 (word w 17) r.entries) (lt-leb 16 (word w 24) r.saved))
    (neither (lt-leb 65536 (word w 5) r.pkey) (neither (le-ltb 31 (word w 7) r.timer) (neither (lt-leb 256 (word w 12) r.kind) (neither (lt-leb 4294967296 (word w 15) r.key) (neither (lt-leb 4294967296 (word w 22) r.psn) (neither (lt-leb 4294967296 (word w 23) r.answered) (lt-leb 256 (word w 28) r.state))))))))))

pub ranges-tested : RangesTested
ranges-tested w = (in-range w, no_stray w)

-- the pair of words that are in range
said-by : (w : List ℕ) → length w ≡ 30 → (b : Bool) → strays w ≡ b → pair_of w ≡ said_by b w
unfolding pair_of
said-by w h b e = ap (λ t. said_by t w) e

pub words-said : WordsSaid
unfolding upto pair_words said_by setup_said timer_said message_of read_of
words-said w r =
    let cut : ltb (length w) 30 ≡ false = ap (λ n. ltb n 30) r.words in
    thirty w r.words
    ∙ ((λ i.
    word w 0 ∷ word w 1 ∷ sym (low-back (word w 2) 16777216 r.ours) i ∷ sym (low-back (word w 3) 16777216 r.theirs) i
    ∷ sym (low-back (word w 4) 16777216 r.start) i ∷ sym (low-back (word w 5) 65536 r.pkey) i
    ∷ sym (low-back (word w 6) 2 (omega (arith, r.service))) i ∷ sym (low-back (word w 7) 32 (omega (arith, r.timer))) i
    ∷ sym (flag_word (word w 8) r.send) i ∷ sym (flag_word (word w 9) r.write) i ∷ sym (flag_word (word w 10) r.read) i
    ∷ sym (flag_word (word w 11) r.atomic) i ∷ sym (low-back (word w 12) 256 r.kind) i ∷ word w 13 ∷ word w 14
    ∷ sym (low-back (word w 15) 4294967296 r.key) i ∷ word w 16 ∷ sym (low-back (word w 17) 16 r.entries) i ∷ word w 18
    ∷ word w 19 ∷ word w 20 ∷ word w 21 ∷ sym (low-back (word w 22) 4294967296 r.psn) i
    ∷ sym (low-back (word w 23) 4294967296 r.answered) i ∷ sym (low-back (word w 24) 16 r.saved) i ∷ word w 25
    ∷ sym (low-back (word w 26) 16777216 r.expected) i ∷ sym (low-back (word w 27) 16777216 r.msn) i
    ∷ sym (low-back (word w 28) 256 r.state) i ∷ sym (flag_word (word w 29) r.nakmark) i ∷ [])
    ∙ (ap (λ t. pair_words (cond t blank_pair (narrowed false w))) (sym cut) ∙ ap pair_words (sym (said-by w r.words false (no_stray w r)))))

-- words out of range say no sound pair
stray-timer : (w : List ℕ) → length w ≡ 30 → strays w ≡ true → (pair_of w).setup.timer ≡ 255
unfolding said_by setup_said timer_said
stray-timer w h e =
    ap (λ q. q.setup.timer) (said-by w h true e)
    ∙ ap (λ t. (cond t blank_pair (narrowed true w)).setup.timer) (ap (λ n. ltb n 30) h)

pub stray-setup : (w : List ℕ) → length w ≡ 30 → strays w ≡ true → SetupSound (pair_of w).setup → ⊥
stray-setup w h e s = let t = stray-timer w h e in let u = s.0.timer in omega (arith, t, u)

-- so words that say numbers of a set-up are in range
pub set-up-words : (w : List ℕ) → length w ≡ 30 → SetupSound (pair_of w).setup → strays w ≡ false
set-up-words w h s = go (strays w) refl
  where
    go : (b : Bool) → strays w ≡ b → strays w ≡ false
    go true e = absurd (stray-setup w h e s)
    go false e = e

pub stray-unsound : StrayUnsound
stray-unsound w h n s = go (strays w) refl
  where
    go : (b : Bool) → strays w ≡ b → ⊥
    go true e = stray-setup w h e s.setup
    go false e = n (in-range w e)

-- so words that say a sound pair are in range
pub sound-words : (w : List ℕ) → length w ≡ 30 → pair_unsound (pair_of w) ≡ false → strays w ≡ false
sound-words w h e = go (strays w) refl
  where
    go : (b : Bool) → strays w ≡ b → strays w ≡ false
    go true f = absurd (stray-setup w h f ((tested (pair_of w)).0 e).setup)
    go false f = f

pub stray-tested : (w : List ℕ) → length w ≡ 30 → strays w ≡ true → pair_unsound (pair_of w) ≡ true
stray-tested w h e = go (pair_unsound (pair_of w)) refl
  where
    go : (b : Bool) → pair_unsound (pair_of w) ≡ b → pair_unsound (pair_of w) ≡ true
    go true f = f
    go false f = absurd (true≢false (sym e ∙ sound-words w h f))

-- the words of a pair
words-in-range : (q : Pair) → PairFields q → InRange (pair_words q)
unfolding pair_words
words-in-range q f = record {
  words = refl;
  ours = f.setup.ours;
  theirs = f.setup.theirs;
  start = f.setup.start;
  pkey = f.setup.pkey;
  service = omega (arith, f.setup.service);
  timer = omega (arith, f.setup.timer);
  send = bit-fits q.setup.send;
  write = bit-fits q.setup.write;
  read = bit-fits q.setup.read;
  atomic = bit-fits q.setup.atomic;
  kind = f.kind;
  key = f.key;
  entries = f.entries;
  psn = f.psn;
  answered = f.answered;
  saved = f.saved;
  expected = omega (arith, f.expected, f.msn);
  msn = omega (arith, f.expected, f.msn);
  state = f.state;
  nakmark = bit-fits q.nakmark;
}
  where
    bit-fits : (b : Bool) → bit b ≤ 1
    bit-fits true = omega arith
    bit-fits false = omega arith

setup-back : (q : Pair) → SetupFields q.setup → setup_said false (pair_words q) ≡ q.setup
unfolding setup_said timer_said pair_words
setup-back q f = λ i. record {
  pmtu = q.setup.pmtu;
  memory = q.setup.memory;
  ours = low-back _ (2 ^ 24) f.ours i;
  theirs = low-back _ (2 ^ 24) f.theirs i;
  start = record { 0 = low-back _ (2 ^ 24) f.start i };
  pkey = low-back _ (2 ^ 16) f.pkey i;
  service = low-back _ 2 f.service i;
  timer = low-back _ (2 ^ 5) f.timer i;
  send = flag-back q.setup.send i;
  write = flag-back q.setup.write i;
  read = flag-back q.setup.read i;
  atomic = flag-back q.setup.atomic i;
}

back : (q : Pair) → PairFields q → said_by false (pair_words q) ≡ q
unfolding said_by pair_words message_of read_of
back q f = λ i. record {
  setup = setup-back q f.setup i;
  message = record {
    kind = low-back _ (2 ^ 8) f.kind i;
    stored = q.message.stored;
    address = q.message.address;
    key = low-back _ (2 ^ 32) f.key i;
    length = q.message.length;
  };
  entries = record { head = low-back _ 16 f.entries i; count = q.entries.count };
  read = record {
    remaining = q.read.remaining;
    offset = q.read.offset;
    length = q.read.length;
    psn = record { 0 = low-back _ (2 ^ 32) f.psn i };
    msn = record { 0 = low-back _ (2 ^ 32) f.answered i };
  };
  saved = record { head = low-back _ 16 f.saved i; count = q.saved.count };
  expected = record { 0 = low-back _ (2 ^ 24) f.expected i };
  msn = record { 0 = low-back _ (2 ^ 24) f.msn i };
  state = low-back _ (2 ^ 8) f.state i;
  nakmark = flag-back q.nakmark i;
}

pub pair-back : PairBack
unfolding pair_words
pair-back q f =
    let n = no_stray (pair_words q) (words-in-range q f) in
    (said-by (pair_words q) refl false n ∙ back q f, n)

-- words in range say numbers in range
narrow : (w : List ℕ) → PairFields (narrowed false w)
unfolding setup_said timer_said message_of read_of
narrow w = record {
  setup = record {
    ours = mod-lt _ (omega arith);
    theirs = mod-lt _ (omega arith);
    start = mod-lt _ (omega arith);
    pkey = mod-lt _ (omega arith);
    service = mod-lt _ (omega arith);
    timer = mod-lt _ (omega arith);
  };
  kind = mod-lt _ (omega arith);
  key = mod-lt _ (omega arith);
  entries = mod-lt _ (omega arith);
  psn = mod-lt _ (omega arith);
  answered = mod-lt _ (omega arith);
  saved = mod-lt _ (omega arith);
  expected = mod-lt _ (omega arith);
  msn = mod-lt _ (omega arith);
  state = mod-lt _ (omega arith);
}

pub said_fits : SaidFits
unfolding said_by
said_fits w r =
    subst PairFields
    (sym (said-by w r.words false (no_stray w r) ∙ ap (λ n. cond (ltb n 30) blank_pair (narrowed false w)) r.words)) (narrow w)

pub sound-fits : SoundFits
sound-fits q s pkey key psn msn = record {
  setup = record {
    ours = s.setup.0.ours;
    theirs = s.setup.0.theirs;
    start = s.setup.0.start;
    pkey = pkey;
    service = ⊎_elim (λ e. omega arith) (λ e. omega arith) s.setup.0.service;
    timer = let t = s.setup.0.timer in omega arith;
  };
  kind = ⊎_elim (λ e. omega arith) (⊎_elim (λ e. let k = e.0 in omega arith) (λ e. let k = e.0 in omega arith)) s.message;
  key = key;
  entries = s.entries.0;
  psn = psn;
  answered = msn;
  saved = s.saved.0;
  expected = s.expected;
  msn = s.msn;
  state = let t = s.state in omega arith;
}
