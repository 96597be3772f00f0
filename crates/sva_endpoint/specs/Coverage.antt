-- What an Invalidate Request covers (PCI Express Base 5.0, section 10.3.1).
use Rattle.std.specs.Prelude.{ℕ, ◌+◌, Bool, true, ◌==◌, ◌&&◌}
use Rattle.sva_model.specs.Range.{is_in, pages_in}
use Rattle.sva_msg.specs.declared.extents.Extent.{Extent}
use Rattle.sva_msg.specs.declared.extents.Extent.TheVariants.{Pages, All}
use Rattle.sva_endpoint.specs.declared.coverage.Invalidation.{Invalidation}

-- is the page one of those covered?
abbrev pub is_within : Extent → ℕ → Bool
is_within (Pages range) page = is_in range page
is_within All page = true

-- does the invalidation cover this page of this PASID?
abbrev pub covers : Invalidation → ℕ → ℕ → Bool
covers invalidation pasid page = (invalidation.pasid == pasid) && is_within invalidation.extent page

-- the keys (PASID, page) that are covered are a run in the order of keys: it begins at this one,
abbrev pub first_key_of : ℕ → Extent → ℕ × ℕ
first_key_of pasid (Pages range) = (pasid, range.base)
first_key_of pasid All = (pasid, 0)

-- the lowest key that the invalidation covers
abbrev pub first_key : Invalidation → ℕ × ℕ
first_key invalidation = first_key_of invalidation.pasid invalidation.extent

-- and this is the one that ends it
abbrev pub end_key_of : ℕ → Extent → ℕ × ℕ
end_key_of pasid (Pages range) = (pasid, range.base + pages_in range)
end_key_of pasid All = (pasid + 1, 0)

-- the lowest key behind those that the invalidation covers, itself not covered
abbrev pub end_key : Invalidation → ℕ × ℕ
end_key invalidation = end_key_of invalidation.pasid invalidation.extent
