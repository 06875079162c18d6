pub mod WhatStays
