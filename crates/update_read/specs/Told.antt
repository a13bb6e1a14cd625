-- What a reader tells of an update.
use Rattle.std.specs.Prelude.{◌≡◌, ℕ, ◌+◌, ◌-◌, List, [], ◌++◌, length, map, take, drop, Result, Ok, Err, ⊤}
use Rattle.wire_num.specs.Field.{Read}
use Rattle.wire_num.specs.Cursor.{CursorOf, rest}
use Rattle.wire_num.specs.declared.range.Range.{Range}
use Rattle.order_means.specs.FrameMarks.{Tile as Rectangle, Update as Meaning}
use Rattle.order_means.specs.FrameMarks.Update.{Orders, Tiles, Synchronize}
use Rattle.update_read.specs.declared.fault.UpdateFault.{UpdateFault}
use Rattle.update_read.specs.declared.fault.UpdateFault.TheVariants.{BadUpdate, OutOfMemory}
use Rattle.update_read.specs.declared.tile.Tile.{Tile}
use Rattle.update_read.specs.declared.update.Update.{Update}
use Rattle.update_read.specs.declared.update.Update.TheVariants.{Orders as ReadOrders, Tiles as ReadTiles, Synchronize as ReadSynchronize}

-- the part of a body
abbrev pub part_of : List ℕ → Range → List ℕ
part_of body at = take (at.to - at.from) (drop at.from body)

-- a rectangle with its bytes
abbrev pub told_tile : List ℕ → Tile → Rectangle
told_tile body t = record { left = t.left; top = t.top; right = t.right; bottom = t.bottom; w = t.w; h = t.h; depth = t.depth; flags = t.flags; bytes = part_of body t.at }

abbrev pub told_tiles : List ℕ → List Tile → List Rectangle
told_tiles body ts = map (told_tile body) ts

-- what the call says of a body
abbrev pub told_update : List ℕ → Update → Meaning
told_update body (ReadOrders count from) = Orders count (drop from body)
told_update body (ReadTiles tiles) = Tiles (told_tiles body tiles.items)
told_update body ReadSynchronize = Synchronize

-- The call read rectangles and appended them; or it came to a field that is refused, and the cursor stands there; or no memory was left.
abbrev pub ReadsTiles : {X : Type 0} → (List ℕ → Read (List Rectangle)) → Result X UpdateFault → CursorOf → CursorOf → List Tile → List Tile → Type 0
ReadsTiles read (Ok _) old new before after = (ts : List Rectangle) × (read (rest old) ≡ Ok (ts, rest new)) × (new.bytes ≡ old.bytes)
    × (told_tiles old.bytes after ≡ told_tiles old.bytes before ++ ts)
ReadsTiles read (Err (BadUpdate at)) old new before after = (read (rest old) ≡ Err (rest new)) × (new.bytes ≡ old.bytes) × (at ≡ new.at)
ReadsTiles read (Err OutOfMemory) old new before after = ⊤

-- The call read an update to the end; or it came to a field that is refused, and the cursor stands there; or no memory was left.
abbrev pub ReadsUpdate : (List ℕ → Read Meaning) → Result Update UpdateFault → CursorOf → CursorOf → Type 0
ReadsUpdate read (Ok update) old new = (read (rest old) ≡ Ok (told_update old.bytes update, [])) × (new.bytes ≡ old.bytes)
ReadsUpdate read (Err (BadUpdate at)) old new = (read (rest old) ≡ Err (rest new)) × (new.bytes ≡ old.bytes) × (at ≡ new.at)
ReadsUpdate read (Err OutOfMemory) old new = ⊤

-- a field of a body is refused at its place
abbrev pub IsRefusedAt : List ℕ → Read Meaning → ℕ → Type 0
IsRefusedAt body (Ok v) at = ⊥
IsRefusedAt body (Err left) at = at + length left ≡ length body

-- The call gave what a body says, or refused it at its first field that breaks its rule.
abbrev pub ReadsBody : List ℕ → Read Meaning → Result Update UpdateFault → Type 0
ReadsBody body read (Ok update) = read ≡ Ok (told_update body update, [])
ReadsBody body read (Err (BadUpdate at)) = IsRefusedAt body read at
ReadsBody body read (Err OutOfMemory) = ⊤
