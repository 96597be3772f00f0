-- What an invalidation is of, as an Invalidate Request names it (PCI Express Base 5.0, section 10.3.1).
use Rattle.std.specs.Prelude.{Option, Some, None}
use Rattle.sva_model.specs.Range.{Range, encode, decode}
use Rattle.sva_msg.specs.declared.messages.Scope.{Scope}
use Rattle.sva_msg.specs.declared.messages.Scope.TheVariants as scope
use Rattle.sva_msg.specs.declared.extents.Extent.{Extent}
use Rattle.sva_msg.specs.declared.extents.Extent.TheVariants.{Pages, All}

-- the pages of a code that was read: where it is that of no range all pages, so that nothing stays cached that it may have meant
abbrev pub pages_of : Option Range → Extent
pages_of (Some range) = Pages range
pages_of None = All

-- the pages that the scope of a message names: all, or the range of its code. For all, too, stands a code that is that of no
-- range: a host sends none (this project's own rule)
abbrev pub extent_of : Scope → Extent
extent_of scope.All = All
extent_of (scope.Code page size) = pages_of (decode (record { page = page; s = size }))

-- the field that names them: a range is named by its code, an address with the bit S
abbrev pub scope_sent : Extent → Scope
scope_sent (Pages range) = scope.Code (encode range).page (encode range).s
scope_sent All = scope.All
