-- Which uses of a cache miss, and at which index, by the history of its uses. A history has the latest use first.
-- A client keeps what a cache order brings at the index that the order names ([MS-RDPEGDI] 2.2.2.2.1.2); to give up the entry used longest ago is our profile.
use Rattle.std.specs.Prelude.{ℕ, ◌==◌, nat_lt, nat_le, Bool, true, false, ◌&&◌, ◌||◌, not, IsTrue, List, [], ◌∷◌, length}

-- whether a key was used
abbrev pub is_used : ℕ → List ℕ → Bool
is_used k [] = false
is_used k (x ∷ past) = (k == x) || is_used k past

-- a list with an item before it where that is wanted
abbrev pub with_item : Bool → ℕ → List ℕ → List ℕ
with_item true x xs = x ∷ xs
with_item false x xs = xs

-- the keys other than this one
abbrev pub other_keys : ℕ → List ℕ → List ℕ
other_keys k [] = []
other_keys k (x ∷ xs) = with_item (not (k == x)) x (other_keys k xs)

-- the keys used, each once, by their last use, the latest first
abbrev pub distinct_keys : List ℕ → List ℕ
distinct_keys [] = []
distinct_keys (k ∷ past) = k ∷ other_keys k (distinct_keys past)

-- a later use before those so far, unless it is of the key itself
abbrev pub since_use : Bool → ℕ → List ℕ → List ℕ
since_use true x xs = []
since_use false x xs = x ∷ xs

-- the uses after the last use of a key; all where it wasn't used
abbrev pub uses_since : ℕ → List ℕ → List ℕ
uses_since k [] = []
uses_since k (x ∷ past) = since_use (k == x) x (uses_since k past)

-- a use misses where its key wasn't used before, or at least as many other distinct keys were used since as there are entries
abbrev pub misses : ℕ → List ℕ → ℕ → Bool
misses entries past k = not (is_used k past) || nat_le entries (length (distinct_keys (uses_since k past)))

abbrev pub IsMiss : ℕ → List ℕ → ℕ → Type 0
IsMiss entries past k = IsTrue (misses entries past k)

-- the keys of a list whose use wouldn't miss
abbrev pub held_among : ℕ → List ℕ → List ℕ → List ℕ
held_among entries past [] = []
held_among entries past (k ∷ ks) = with_item (not (misses entries past k)) k (held_among entries past ks)

-- the keys held, by their last use, the latest first
abbrev pub held_keys : ℕ → List ℕ → List ℕ
held_keys entries past = held_among entries past (distinct_keys past)

-- the last of a list, or 0
abbrev pub last_key : List ℕ → ℕ
last_key [] = 0
last_key (k ∷ []) = k
last_key (k ∷ j ∷ ks) = last_key (j ∷ ks)

-- the held key whose last use is longest ago
abbrev pub oldest_key : ℕ → List ℕ → ℕ
oldest_key entries past = last_key (held_keys entries past)

-- a new index while there is room, else that of the key that is given up, by the indices so far
abbrev pub new_index : Bool → ℕ → (ℕ → ℕ) → ℕ → ℕ
new_index true count index oldest = count
new_index false count index oldest = index oldest

-- the index of a miss: the number of distinct keys used before while there are more entries, else the index of the oldest held key
abbrev pub miss_index : ℕ → List ℕ → (ℕ → ℕ) → ℕ
miss_index entries past index = new_index (nat_lt (length (distinct_keys past)) entries) (length (distinct_keys past)) index (oldest_key entries past)

-- the index of a key after a use: that of the use where it is the key's and misses, else the one that it had
abbrev pub index_after : Bool → ℕ → List ℕ → (ℕ → ℕ) → ℕ → ℕ
index_after true entries past index k = miss_index entries past index
index_after false entries past index k = index k

-- the index of a key's last miss, or 0
abbrev pub last_index : ℕ → List ℕ → ℕ → ℕ
last_index entries [] k = 0
last_index entries (x ∷ past) k = index_after ((k == x) && misses entries past x) entries past (last_index entries past) k

-- the index of a use of a key: of a hit that of the key's last miss, of a miss its own
abbrev pub cache_index : ℕ → List ℕ → ℕ → ℕ
cache_index entries past k = index_after (misses entries past k) entries past (last_index entries past) k

-- the uses of one of several caches, from a history of pairs of a cache's number and a key
abbrev pub uses_of : ℕ → List (ℕ × ℕ) → List ℕ
uses_of cache [] = []
uses_of cache (u ∷ us) = with_item (cache == u.0) u.1 (uses_of cache us)
