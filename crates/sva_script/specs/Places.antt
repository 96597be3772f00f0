-- What stands at each place of a step's line behind its name.
use Rattle.std.specs.Prelude.{ℕ, if◌then◌else◌, List, [], ◌∷◌, codes, Option, Some, None}
use Rattle.std.specs.Str.{bytes_eq}
use Rattle.sva_script.specs.declared.places.Field.{Field}
use Rattle.sva_script.specs.declared.places.Field.TheVariants.{Endpoint, Worker, Space, Binding, Pasid, Page, Frame, Slot, Group, Itags, Message}
use Rattle.sva_script.specs.declared.places.Field.TheVariants.{Count, MaybeCount, Order, Access, Flags, Last, Verdict}

-- the steps of endpoints and of the link, one row for each
unfoldable pub places_of_endpoint : List ℕ → Option (List Field)
places_of_endpoint step =
    if bytes_eq step (codes "ask") then Some (Endpoint ∷ Pasid ∷ Page ∷ []) else
    if bytes_eq step (codes "evict") then Some (Endpoint ∷ Pasid ∷ Page ∷ []) else
    if bytes_eq step (codes "use") then Some (Endpoint ∷ Pasid ∷ Page ∷ Access ∷ []) else
    if bytes_eq step (codes "end") then Some (Endpoint ∷ Slot ∷ []) else
    if bytes_eq step (codes "fault") then Some (Endpoint ∷ Pasid ∷ Page ∷ Flags ∷ Group ∷ Last ∷ []) else
    if bytes_eq step (codes "finish") then Some (Endpoint ∷ Itags ∷ Count ∷ []) else
    if bytes_eq step (codes "quit") then Some (Endpoint ∷ Pasid ∷ []) else
    if bytes_eq step (codes "deliver") then Some (Message ∷ []) else
    None

-- those of bindings, units and workers, and else one of the above
unfoldable pub places_of_host : List ℕ → Option (List Field)
places_of_host step =
    if bytes_eq step (codes "bind") then Some (Endpoint ∷ Space ∷ []) else
    if bytes_eq step (codes "unbind") then Some (Binding ∷ []) else
    if bytes_eq step (codes "advance") then Some (Binding ∷ []) else
    if bytes_eq step (codes "pump") then Some (Endpoint ∷ []) else
    if bytes_eq step (codes "serve") then Some (Endpoint ∷ []) else
    if bytes_eq step (codes "reset") then Some (Endpoint ∷ []) else
    if bytes_eq step (codes "take") then Some (Worker ∷ []) else
    if bytes_eq step (codes "answer") then Some (Worker ∷ Verdict ∷ []) else
    places_of_endpoint step

-- those of spaces, frames and PASIDs, and else one of the above; a word of another name is of no step
unfoldable pub places_of : List ℕ → Option (List Field)
places_of step =
    if bytes_eq step (codes "space") then Some [] else
    if bytes_eq step (codes "drop") then Some (Space ∷ []) else
    if bytes_eq step (codes "map") then Some (Space ∷ Page ∷ Access ∷ []) else
    if bytes_eq step (codes "unmap") then Some (Space ∷ Page ∷ MaybeCount ∷ []) else
    if bytes_eq step (codes "unmapr") then Some (Space ∷ Page ∷ Order ∷ []) else
    if bytes_eq step (codes "look") then Some (Frame ∷ []) else
    if bytes_eq step (codes "bearer") then Some (Pasid ∷ []) else
    places_of_host step
