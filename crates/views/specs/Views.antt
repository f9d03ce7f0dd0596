-- Views of delivered information.
use Rattle.std.specs.Prelude.{◌≡◌, ℕ, ◌+◌, ◌-◌, ◌*◌, ◌/◌, ◌%◌, ◌<◌, Bool, cond, not, ◌||◌, ◌↔◌, List, [], ◌∷◌, ◌++◌, length, take, drop, Ok, Err, Result, ◌==◌, nat_lt, slice_index, slice_range}
use Rattle.std.specs.Str.{bytes_eq}
use Rattle.checks.specs.Fcs.{fcs32, owed}
use Rattle.views.specs.Sum.{word, word_sum, folded_sum}
use Rattle.views.specs.declared.parts.Part.{Part}
use Rattle.views.specs.declared.parts.MacFrame.{MacFrame}
use Rattle.views.specs.declared.parts.Ipv4Packet.{Ipv4Packet}
use Rattle.views.specs.declared.parts.Ipv6Packet.{Ipv6Packet}
use Rattle.views.specs.declared.parts.View.{View}
use Rattle.views.specs.declared.parts.View.TheVariants.{Mac, Ipv4, Ipv6}
use Rattle.views.specs.declared.parts.Refusal.{Refusal}
use Rattle.views.specs.declared.parts.Refusal.TheVariants.{MacLength, MacCheck, IpVersion, IpHeader, IpLength, IpSum, NoView}

abbrev pub number_of : Refusal → ℕ
number_of MacLength = 21
number_of MacCheck = 22
number_of IpVersion = 23
number_of IpHeader = 24
number_of IpLength = 25
number_of IpSum = 26
number_of NoView = 27

-- Refusals in the order in which they apply, each with whether it does: the first that applies is given.
abbrev pub unless : {X : Type 0} → List (Bool × Refusal) → X → Result X Refusal
unless [] x = Ok x
unless (t ∷ ts) x = cond t.0 (Err t.1) (unless ts x)

-- a part: its place, and the octets there
pub record Piece : Type 0 where
  pub at : ℕ
  pub octets : List ℕ

-- the octets of the information from one place up to another
abbrev pub piece : List ℕ → ℕ → ℕ → Piece
piece info from to = record { at = from; octets = slice_range info from to }

-- MAC: destination, source, length or type, data, check
pub record MacParts : Type 0 where
  pub destination : Piece
  pub source : Piece
  pub length_or_type : Piece
  pub payload : Piece
  pub check : Piece

-- the last four octets are the check octets of those before
abbrev pub checked : List ℕ → Bool
checked info = bytes_eq (owed fcs32 (take (length info - 4) info)) (drop (length info - 4) info)

abbrev pub mac_parts : List ℕ → MacParts
mac_parts info = record {
  destination = piece info 0 6;
  source = piece info 6 12;
  length_or_type = piece info 12 14;
  payload = piece info 14 (length info - 4);
  check = piece info (length info - 4) (length info);
}

abbrev pub mac_tests : List ℕ → List (Bool × Refusal)
mac_tests info =
    (nat_lt (length info) 64 || nat_lt 1518 (length info), MacLength) ∷
    (not (checked info), MacCheck) ∷
    []

abbrev pub mac_viewed : List ℕ → Result MacParts Refusal
mac_viewed info = unless (mac_tests info) (mac_parts info)

-- IPv4 (RFC 791): fixed header, options, payload, rest
pub record Ipv4Parts : Type 0 where
  pub header : Piece
  pub options : Piece
  pub payload : Piece
  pub rest : Piece

-- the first octet has the version above and the header length, in units of four octets, below
abbrev pub version : List ℕ → ℕ
version info = slice_index info 0 / 16

abbrev pub header_length : List ℕ → ℕ
header_length info = slice_index info 0 % 16 * 4

abbrev pub total_length : List ℕ → ℕ
total_length info = word (slice_index info 2) (slice_index info 3)

-- over the whole header, options included
abbrev pub header_words : List ℕ → ℕ
header_words info = word_sum (piece info 0 (header_length info)).octets

abbrev pub header_sum : List ℕ → ℕ
header_sum info = folded_sum (header_words info)

abbrev pub ipv4_parts : List ℕ → Ipv4Parts
ipv4_parts info = record {
  header = piece info 0 20;
  options = piece info 20 (header_length info);
  payload = piece info (header_length info) (total_length info);
  rest = piece info (total_length info) (length info);
}

abbrev pub ipv4_tests : List ℕ → List (Bool × Refusal)
ipv4_tests info =
    (nat_lt (length info) 20, IpHeader) ∷
    (not (version info == 4), IpVersion) ∷
    (nat_lt (header_length info) 20 || nat_lt (length info) (header_length info), IpHeader) ∷
    (nat_lt (total_length info) (header_length info) || nat_lt (length info) (total_length info), IpLength) ∷
    (not (header_sum info == 0xffff), IpSum) ∷
    []

abbrev pub ipv4_viewed : List ℕ → Result Ipv4Parts Refusal
ipv4_viewed info = unless (ipv4_tests info) (ipv4_parts info)

-- IPv6 (RFC 2460): header, payload, rest
pub record Ipv6Parts : Type 0 where
  pub header : Piece
  pub payload : Piece
  pub rest : Piece

abbrev pub payload_length : List ℕ → ℕ
payload_length info = word (slice_index info 4) (slice_index info 5)

abbrev pub ipv6_parts : List ℕ → Ipv6Parts
ipv6_parts info = record {
  header = piece info 0 40;
  payload = piece info 40 (40 + payload_length info);
  rest = piece info (40 + payload_length info) (length info);
}

abbrev pub ipv6_tests : List ℕ → List (Bool × Refusal)
ipv6_tests info =
    (nat_lt (length info) 40, IpHeader) ∷
    (not (version info == 6), IpVersion) ∷
    (nat_lt (length info - 40) (payload_length info), IpLength) ∷
    []

abbrev pub ipv6_viewed : List ℕ → Result Ipv6Parts Refusal
ipv6_viewed info = unless (ipv6_tests info) (ipv6_parts info)

-- a view of each kind
pub data Viewed : Type 0 where
  mac : MacParts → Viewed
  ipv4 : Ipv4Parts → Viewed
  ipv6 : Ipv6Parts → Viewed

abbrev pub held : {X Y : Type 0} → (X → Y) → Result X Refusal → Result Y Refusal
held f (Ok x) = Ok (f x)
held f (Err e) = Err e

-- by the SAPI that the information came with
abbrev pub viewed : ℕ → List ℕ → Result Viewed Refusal
viewed sapi info =
    cond (sapi == 0xfe01) (held mac (mac_viewed info))
    (cond (sapi == 0x0021) (held ipv4 (ipv4_viewed info))
    (cond (sapi == 0x0057) (held ipv6 (ipv6_viewed info))
    (Err NoView)))

-- what the program's values hold
abbrev pub piece_of : Part → Piece
piece_of p = record { at = p.at; octets = p.octets.now }

abbrev pub mac_of : MacFrame → MacParts
mac_of f = record { destination = piece_of f.destination; source = piece_of f.source; length_or_type = piece_of f.length_or_type; payload = piece_of f.payload; check = piece_of f.check }

abbrev pub ipv4_of : Ipv4Packet → Ipv4Parts
ipv4_of p = record { header = piece_of p.header; options = piece_of p.options; payload = piece_of p.payload; rest = piece_of p.rest }

abbrev pub ipv6_of : Ipv6Packet → Ipv6Parts
ipv6_of p = record { header = piece_of p.header; payload = piece_of p.payload; rest = piece_of p.rest }

abbrev pub view_of : View → Viewed
view_of (Mac f) = mac (mac_of f)
view_of (Ipv4 p) = ipv4 (ipv4_of p)
view_of (Ipv6 p) = ipv6 (ipv6_of p)

-- all parts of a view, in their order
abbrev pub parts : Viewed → List Piece
parts (mac f) = f.destination ∷ f.source ∷ f.length_or_type ∷ f.payload ∷ f.check ∷ []
parts (ipv4 p) = p.header ∷ p.options ∷ p.payload ∷ p.rest ∷ []
parts (ipv6 p) = p.header ∷ p.payload ∷ p.rest ∷ []

-- The parts of a view tile its information: each stands where the one before it ends, holds the octets of the
-- information at its place, and together they are the whole of it.
abbrev pub joined : List Piece → List ℕ
joined [] = []
joined (p ∷ ps) = p.octets ++ joined ps

abbrev pub Placed : List ℕ → ℕ → List Piece → Type 0
Placed info at [] = Unit {0}
Placed info at (p ∷ ps) = (p.at ≡ at) × (p.octets ≡ take (length p.octets) (drop at info)) × Placed info (at + length p.octets) ps

abbrev pub Tiled : List ℕ → Result Viewed Refusal → Type 0
Tiled info (Ok v) = Placed info 0 (parts v) × (joined (parts v) ≡ info)
Tiled info (Err e) = Unit {0}

-- What the sum test of a header comes to: the folded sum is 0xffff exactly when the words sum to 0xffff, or to a
-- multiple of it, but not to 0.
abbrev pub SumLaw : List ℕ → Type 0
SumLaw info = (header_sum info ≡ 0xffff) ↔ ((0 < header_words info) × (header_words info % 0xffff ≡ 0))
