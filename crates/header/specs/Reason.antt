-- The nine header checks, by their order: why a packet is dropped.
use Rattle.std.specs.Prelude.{ℕ}

abbrev pub length : ℕ
length = 1

abbrev pub version : ℕ
version = 2

abbrev pub number : ℕ
number = 3

abbrev pub key : ℕ
key = 4

abbrev pub service : ℕ
service = 5

abbrev pub response : ℕ
response = 6

abbrev pub unserved : ℕ
unserved = 7

abbrev pub short : ℕ
short = 8

abbrev pub not_ready : ℕ
not_ready = 9
