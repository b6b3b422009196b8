-- Where the numbers of pairs and headers stand.
use Prim.Native.Nat.{ℕ}
use mathlib.Core.Path.{◌≡◌, refl, ap}
use mathlib.Core.Bool.{Bool, true, false}
use mathlib.Core.List.{[], ◌∷◌}
use Rattle.header.specs.Bytes.{bit}
use Rattle.header.specs.declared.Extension.{Extension}
use Rattle.header.specs.declared.Extension.TheVariants.{Bare, Remote, RemoteImmediate, Immediate, Atomic, Acknowledge, AtomicAcknowledge}
use Rattle.abi_spec.specs.Pair.{pair_words}
use Rattle.abi_spec.specs.Fields.{bth_words, remote_words, atomic_words, aeth_words, immediate_words, extension_words}
use Rattle.abi_spec.specs.Claims.{WordsAt, TenAt, ExtensionWordsAt, HeaderWordsAt}

flag_at : (b : Bool) → (b ≡ true → bit b ≡ 1) × (b ≡ false → bit b ≡ 0)
flag_at b = (λ e. ap bit e, λ e. ap bit e)

pub words-at : WordsAt
unfolding pair_words
words-at q = record {
  setup = record {
    pmtu = refl;
    memory = refl;
    ours = refl;
    theirs = refl;
    start = refl;
    pkey = refl;
    service = refl;
    timer = refl;
    send = flag_at q.setup.send;
    write = flag_at q.setup.write;
    read = flag_at q.setup.read;
    atomic = flag_at q.setup.atomic;
  };
  kind = refl;
  stored = refl;
  address = refl;
  key = refl;
  length = refl;
  entries = (refl, refl);
  remaining = refl;
  offset = refl;
  bytes = refl;
  psn = refl;
  answered = refl;
  saved = (refl, refl);
  expected = refl;
  msn = refl;
  state = refl;
  nakmark = flag_at q.nakmark;
}

-- ten words, one after the other
ten : {k a y n s c x m v i : ℕ} → TenAt (k ∷ a ∷ y ∷ n ∷ s ∷ c ∷ x ∷ m ∷ v ∷ i ∷ []) k a y n s c x m v i
ten = record { words = refl; word0 = refl; word1 = refl; word2 = refl; word3 = refl; word4 = refl; word5 = refl; word6 = refl; word7 = refl; word8 = refl; word9 = refl }

extension-at : (e : Extension) → ExtensionWordsAt (extension_words e) e
unfolding extension_words remote_words atomic_words aeth_words immediate_words
extension-at Bare = ten
extension-at (Remote r) = ten
extension-at (RemoteImmediate r i) = ten
extension-at (Immediate i) = ten
extension-at (Atomic a) = ten
extension-at (Acknowledge a) = ten
extension-at (AtomicAcknowledge a v) = ten

pub header-words-at : HeaderWordsAt
unfolding bth_words
header-words-at b e = (
  record {
    words = refl;
    opcode = refl;
    se = flag_at b.se;
    migreq = flag_at b.migreq;
    pad = refl;
    tver = refl;
    pkey = refl;
    reserved8 = refl;
    dest = refl;
    ackreq = flag_at b.ackreq;
    reserved7 = refl;
    psn = refl;
  },
  extension-at e,
)
